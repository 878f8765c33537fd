-- The totals so far, and those from here on, are all together; and the totals so far are those of the sightings
-- so far.
use Rattle.std.proofs.Common.{take}
use Rattle.denied_calls.specs.Sightings.{same_kind, total_is_of, total_of, totals}
use Rattle.denied_calls.proofs.Added.{Adds, Tells}
use Rattle.denied_calls.proofs.totalling.each_total.Given as goal

abbrev pub invariant-loop-sighting : goal.invariant-loop-sighting
invariant-loop-sighting l = record {
  whole : Adds same_kind (total_of l.sightings) l.sightings l.totals.items l.sighting-index (totals l.sightings);
  told : Tells same_kind total_is_of l.totals.items (take l.sighting-index l.sightings);
}
