use Rattle.std.proofs.Common.{◌≡◌, ◌-◌, ◌^◌, min, sum_by, take}
use Rattle.denied_calls.specs.Sightings.{kind_part}
use Rattle.denied_calls.proofs.totalling.kind_counted.Given as goal

abbrev pub invariant-loop-other : goal.invariant-loop-other
invariant-loop-other l = l.count
    ≡ min (sum_by (kind_part l.sighting) (take l.other-index l.sightings)) (2 ^ 64 - 1)
