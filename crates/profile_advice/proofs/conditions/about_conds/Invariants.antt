-- The advice so far, followed by that about the rest, is all of it.
use Rattle.std.proofs.Common.{◌≡◌, ◌++◌, drop}
use Rattle.std.specs.Prelude.{flat_map}
use Rattle.std.specs.List.{enumerate_from}
use Rattle.profile_advice.specs.Conditions.{about_cond}
use Rattle.profile_advice.proofs.conditions.about_conds.Given as goal

abbrev pub invariant-loop-at : goal.invariant-loop-at
invariant-loop-at l = l.found.items
    ++ flat_map (about_cond l.profile l.place l.entry) (enumerate_from l.at (drop l.at l.entry.conds))
    ≡ flat_map (about_cond l.profile l.place l.entry) (enumerate_from 0 l.entry.conds)
