-- What is written so far, followed by the remaining characters as they are shown, is the whole text.
use Rattle.std.proofs.Common.{◌≡◌, ◌++◌, ℕ, List, IsUtf8, chars}
use Rattle.std.specs.Fmt.{HasWritten, IsPlainFormatter}
use Rattle.std.specs.Str.Iter.{chars_rest}
use Rattle.profile_report.specs.Escaped.{html_fitting, html_text}
use Rattle.profile_report.proofs.escaping.HtmlDisplay.fmt.Given as goal

abbrev pub invariant-loop-c : goal.invariant-loop-c
invariant-loop-c g l =
    IsUtf8 (chars_rest l.c-iterator)
    × ((IsPlainFormatter l.fn.f → (done : List ℕ) × HasWritten g.W.Write.write_str_gives l.fn.f done l.f
    × (done ++ html_fitting l.room (chars (chars_rest l.c-iterator)) ≡ html_text l.self.room l.self.text.now)))
