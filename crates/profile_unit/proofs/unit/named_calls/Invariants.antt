-- The list is complete below this number.
use Rattle.profile_unit.specs.Units.{IsUpTo}
use Rattle.profile_unit.proofs.unit.named_calls.Given as goal

abbrev pub invariant-loop-nr : goal.invariant-loop-nr
invariant-loop-nr l = IsUpTo l.entries l.default l.nr l.calls.items
