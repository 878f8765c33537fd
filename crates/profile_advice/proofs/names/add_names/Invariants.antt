-- The advice so far, followed by that about the rest, is all of it.
use Rattle.std.proofs.Common.{◌≡◌, ◌++◌, drop}
use Rattle.std.specs.Prelude.{filter_map}
use Rattle.profile_advice.specs.Names.{shadow_at}
use Rattle.profile_advice.proofs.names.add_names.Given as goal

abbrev pub invariant-loop-number : goal.invariant-loop-number
invariant-loop-number l = l.found.items ++ filter_map (shadow_at l.entries l.place l.entry) (drop l.number-index l.number-items)
    ≡ l.initial.found.items ++ filter_map (shadow_at l.entries l.place l.entry) l.number-items
