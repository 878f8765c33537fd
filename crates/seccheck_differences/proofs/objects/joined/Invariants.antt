-- What was written, followed by the objects from here on, is the whole text.
use Rattle.std.proofs.Common.{◌≡◌, ◌++◌, drop}
use Rattle.std.specs.Prelude.{string_bytes}
use Rattle.seccheck_differences.specs.Objects.{lines_objects}
use Rattle.seccheck_differences.proofs.objects.joined.Given as goal

abbrev pub invariant-loop-line : goal.invariant-loop-line
invariant-loop-line l = string_bytes l.text ++ lines_objects l.known (drop l.line-index l.lines)
    ≡ lines_objects l.known l.lines
