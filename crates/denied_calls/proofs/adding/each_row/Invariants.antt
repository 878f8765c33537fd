-- The rows so far, and those from here on, are all together; and the rows so far are those of the sightings so
-- far.
use Rattle.denied_calls.specs.Sightings.{row_of, rows, same_call, same_call_at}
use Rattle.denied_calls.proofs.Added.{Adds, Tells}
use Rattle.std.proofs.Common.{take}
use Rattle.denied_calls.proofs.adding.each_row.Given as goal

abbrev pub invariant-loop-place : goal.invariant-loop-place
invariant-loop-place l = record {
  whole : Adds same_call (row_of l.sightings) l.sightings l.rows.items l.place (rows l.sightings);
  told : Tells same_call (λ s row. same_call_at l.sightings row.place s) l.rows.items (take l.place l.sightings);
}
