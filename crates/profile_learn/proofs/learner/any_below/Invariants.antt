-- The numbers so far are those of the calls below this one.
use Rattle.std.proofs.Common.{◌≡◌}
use Rattle.profile_learn.specs.Entries.{any_below}
use Rattle.profile_learn.proofs.learner.any_below.Given as goal

abbrev pub invariant-loop-number : goal.invariant-loop-number
invariant-loop-number l = l.numbers.items ≡ any_below l.learned l.wanted l.number
