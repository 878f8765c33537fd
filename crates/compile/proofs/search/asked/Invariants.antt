use Rattle.compile.proofs.Common.{◌≡◌, drop, conditions_at}
use Rattle.compile.proofs.search.asked.Given as goal

abbrev pub invariant-loop-entry : goal.invariant-loop-entry
invariant-loop-entry l = conditions_at (drop l.entry-index l.entries) l.nr ≡ conditions_at l.entries l.nr
