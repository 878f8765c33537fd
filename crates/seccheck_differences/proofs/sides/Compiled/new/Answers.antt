use Rattle.seccheck_differences.proofs.sides.Compiled.new.Goals as goal

pub invariant_of-result : goal.invariant_of-result
invariant_of-result c = record {
  means = λ call value is returns.
      c.runs_are_determined.ensures.value _ _ _ _ _ _ returns.run (c.in_ok-filter.ensures.means call is).1;
}
