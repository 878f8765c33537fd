-- The advice so far, followed by that about the rest, is all of it.
use Rattle.std.proofs.Common.{◌≡◌, ◌++◌, drop}
use Rattle.std.specs.Prelude.{flat_map}
use Rattle.std.specs.List.{enumerate_from}
use Rattle.profile_advice.specs.Advice.{about_entry}
use Rattle.profile_advice.proofs.whole.about_entries.Given as goal

abbrev pub invariant-loop-place : goal.invariant-loop-place
invariant-loop-place l = l.found.items
    ++ flat_map (about_entry l.profile) (enumerate_from l.place (drop l.place l.profile.entries))
    ≡ flat_map (about_entry l.profile) (enumerate_from 0 l.profile.entries)
