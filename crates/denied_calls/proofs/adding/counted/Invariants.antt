use Rattle.std.proofs.Common.{◌≡◌, ◌-◌, ◌^◌, min, sum_by, take}
use Rattle.denied_calls.specs.Sightings.{part}
use Rattle.denied_calls.proofs.adding.counted.Given as goal

abbrev pub invariant-loop-other : goal.invariant-loop-other
invariant-loop-other l = l.count ≡ min (sum_by (part l.sighting) (take l.other-index l.sightings)) (2 ^ 64 - 1)
