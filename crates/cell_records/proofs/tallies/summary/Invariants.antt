-- The tallies so far, followed by those from here on, are all of them; and the kinds of the tallies so far
-- are those of the calls so far.
use Rattle.std.proofs.Common.{◌≡◌, ◌++◌, drop, take}
use Rattle.std.specs.Prelude.{filter_map}
use Rattle.std.specs.List.{enumerate_from, list_any}
use Rattle.cell_records.specs.declared.tallies.CallKind.{CallKind}
use Rattle.cell_records.specs.Steps.{is_told}
use Rattle.cell_records.specs.Summary.{is_of, summary, tally_at}
use Rattle.cell_records.proofs.tallies.summary.Given as goal

abbrev pub invariant-loop-place : goal.invariant-loop-place
invariant-loop-place l = record {
  whole : l.tallies.items ++ filter_map (tally_at l.calls l.entries)
      (enumerate_from l.place (drop l.place l.entries)) ≡ summary l.calls l.entries;
  told : (kind : CallKind) → is_told kind l.tallies.items
      ≡ list_any (is_of l.calls kind) (take l.place l.entries);
}
