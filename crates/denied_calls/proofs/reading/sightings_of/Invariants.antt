-- What was made, and what is made from this call on, are all together.
use Rattle.std.proofs.Common.{◌≡◌, ◌++◌, map, drop}
use Rattle.std.specs.Prelude.{filter_map}
use Rattle.denied_calls.specs.Reading.{denied_of, head_seen, seen}
use Rattle.denied_calls.proofs.reading.sightings_of.Given as goal

abbrev pub invariant-loop-call : goal.invariant-loop-call
invariant-loop-call l = map seen l.sightings.items
    ++ filter_map (denied_of (head_seen l.head)) (drop l.call-index l.calls)
    ≡ filter_map (denied_of (head_seen l.head)) l.calls
