-- The findings so far, followed by those about the names from here on, are all of them; the numbers of the
-- names before were seen.
use Rattle.std.proofs.Common.{◌≡◌, ◌++◌, drop, map, take}
use Rattle.std.specs.Prelude.{filter_map}
use Rattle.std.specs.List.{enumerate_from}
use Rattle.serde_json.specs.View.{view}
use Rattle.profile_lint.specs.Passed.{AreSeen, name_at, told}
use Rattle.profile_lint.proofs.names.names_in.Given as goal

abbrev pub invariant-loop-index : goal.invariant-loop-index
invariant-loop-index l = (map told l.found.items
    ++ filter_map (name_at l.calls l.entry (map view l.names))
    (enumerate_from l.index (map view (drop l.index l.names)))
    ≡ filter_map (name_at l.calls l.entry (map view l.names)) (enumerate_from 0 (map view l.names)))
    × AreSeen l.calls (take l.index (map view l.names)) l.seen.items
