-- What was written, followed by the lines from here on, is the whole text.
use Rattle.std.proofs.Common.{◌≡◌, ◌++◌, drop}
use Rattle.std.specs.Prelude.{string_bytes}
use Rattle.profile_report.specs.Denials.{lines_html}
use Rattle.profile_report.proofs.denials.lines_html.Given as goal

abbrev pub invariant-loop-line : goal.invariant-loop-line
invariant-loop-line l = string_bytes l.text ++ lines_html (drop l.line-index l.lines)
    ≡ lines_html l.lines
