-- The advice so far, followed by that about the rest, is all of it.
use Rattle.std.proofs.Common.{◌≡◌, ◌++◌, drop}
use Rattle.std.specs.Prelude.{filter_map}
use Rattle.profile_advice.specs.Calls.{bypass_at}
use Rattle.profile_advice.proofs.calls.add_ways.Given as goal

abbrev pub invariant-loop-way : goal.invariant-loop-way
invariant-loop-way l = l.found.items ++ filter_map (bypass_at l.profile) (drop l.way-index l.ways)
    ≡ l.initial.found.items ++ filter_map (bypass_at l.profile) l.ways
