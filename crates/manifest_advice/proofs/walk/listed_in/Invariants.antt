-- The advice so far, followed by that on the containers from here on, is all of it.
use Rattle.std.proofs.Common.{◌≡◌, ◌++◌, drop, map}
use Rattle.std.specs.Prelude.{flat_map}
use Rattle.std.specs.List.{enumerate_from}
use Rattle.serde_json.specs.View.{view}
use Rattle.manifest_advice.specs.Advice.{container_at, told}
use Rattle.manifest_advice.proofs.walk.listed_in.Given as goal

abbrev pub invariant-loop-index : goal.invariant-loop-index
invariant-loop-index l = map told l.found.items
    ++ flat_map (container_at l.listing) (enumerate_from l.index (map view (drop l.index l.items)))
    ≡ flat_map (container_at l.listing) (enumerate_from 0 (map view l.items))
