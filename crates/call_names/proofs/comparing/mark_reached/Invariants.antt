-- A walk reaches each place that is marked so far.
use Rattle.call_names.specs.Marks.{Reaches}
use Rattle.call_names.proofs.comparing.mark_reached.Given as goal

abbrev pub invariant-loop-at : goal.invariant-loop-at
invariant-loop-at l = Reaches l.code l.reached
