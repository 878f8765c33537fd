use Rattle.compile.proofs.Common.{◌≤◌}
use Rattle.compile.proofs.order.conditional.Given as goal

abbrev pub invariant-loop-at : goal.invariant-loop-at
invariant-loop-at l = l.count ≤ l.at
