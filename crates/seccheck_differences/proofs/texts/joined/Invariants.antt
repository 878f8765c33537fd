-- What was written, followed by the lines from here on, is the whole text.
use Rattle.std.proofs.Common.{◌≡◌, ◌++◌, drop}
use Rattle.std.specs.Prelude.{string_bytes}
use Rattle.seccheck_differences.specs.Texts.{lines_text}
use Rattle.seccheck_differences.proofs.texts.joined.Given as goal

abbrev pub invariant-loop-line : goal.invariant-loop-line
invariant-loop-line l = string_bytes l.text ++ lines_text l.known (drop l.line-index l.lines)
    ≡ lines_text l.known l.lines
