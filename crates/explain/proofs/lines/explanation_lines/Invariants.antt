-- What was written, followed by the lines from here on, is the whole text.
use Rattle.std.proofs.Common.{◌≡◌, ◌++◌, drop}
use Rattle.std.specs.Prelude.{string_bytes}
use Rattle.explain.specs.Text.{passed_lines}
use Rattle.explain.proofs.lines.explanation_lines.Given as goal

abbrev pub invariant-loop-passed : goal.invariant-loop-passed
invariant-loop-passed l = string_bytes l.text ++ passed_lines (drop l.passed-index l.passed-items)
    ≡ passed_lines l.explanation.passed.items
