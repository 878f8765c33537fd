-- The advice so far, followed by that about the rest, is all of it.
use Rattle.std.proofs.Common.{◌≡◌, ◌++◌, drop}
use Rattle.std.specs.Prelude.{filter_map}
use Rattle.profile_advice.specs.Conditions.{wide_at}
use Rattle.profile_advice.proofs.conditions.add_wide.Given as goal

abbrev pub invariant-loop-number : goal.invariant-loop-number
invariant-loop-number l = l.found.items ++ filter_map
    (wide_at l.tested.profile.now l.tested.place l.tested.entry.now.conds l.tested.at l.tested.cond)
    (drop l.number-index l.number-items)
    ≡ l.initial.found.items ++ filter_map
    (wide_at l.tested.profile.now l.tested.place l.tested.entry.now.conds l.tested.at l.tested.cond)
    l.number-items
