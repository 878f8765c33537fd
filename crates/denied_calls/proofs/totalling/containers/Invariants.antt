use Rattle.std.proofs.Common.{◌≡◌, count_by, take}
use Rattle.std.specs.Prelude.{slice_get}
use Rattle.denied_calls.specs.Sightings.{kind_here}
use Rattle.denied_calls.proofs.totalling.containers.Given as goal

abbrev pub invariant-loop-row : goal.invariant-loop-row
invariant-loop-row l = l.count
    ≡ count_by (λ row. kind_here (slice_get l.sightings row.place) l.sighting) (take l.row-index l.told)
