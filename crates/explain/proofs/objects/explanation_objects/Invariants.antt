-- What was written, followed by the objects from here on, is the whole text.
use Rattle.std.proofs.Common.{◌≡◌, ◌++◌, drop}
use Rattle.std.specs.Prelude.{string_bytes}
use Rattle.explain.specs.Objects.{passed_objects}
use Rattle.explain.proofs.objects.explanation_objects.Given as goal

abbrev pub invariant-loop-passed : goal.invariant-loop-passed
invariant-loop-passed l = string_bytes l.text ++ passed_objects (drop l.passed-index l.passed-items)
    ≡ passed_objects l.explanation.passed.items
