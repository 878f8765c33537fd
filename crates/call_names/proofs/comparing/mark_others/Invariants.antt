-- The places before this one are passed.
use Rattle.call_names.specs.Marks.{Knows}
use Rattle.call_names.proofs.comparing.mark_others.Given as goal

abbrev pub invariant-loop-at : goal.invariant-loop-at
invariant-loop-at l = Knows l.code l.others l.at
