-- The advice so far, followed by that about the rest, is all of it.
use Rattle.std.proofs.Common.{◌≡◌, ◌++◌, drop}
use Rattle.std.specs.Prelude.{filter_map}
use Rattle.profile_advice.specs.Calls.{power_at}
use Rattle.profile_advice.proofs.calls.add_powers.Given as goal

abbrev pub invariant-loop-number : goal.invariant-loop-number
invariant-loop-number l = l.found.items ++ filter_map (power_at l.profile) (drop l.number-index l.numbers)
    ≡ l.initial.found.items ++ filter_map (power_at l.profile) l.numbers
