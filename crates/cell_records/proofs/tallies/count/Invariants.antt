use Rattle.std.proofs.Common.{◌≡◌, count_by, take}
use Rattle.cell_records.specs.Summary.{is_of}
use Rattle.cell_records.proofs.tallies.count.Given as goal

abbrev pub invariant-loop-entry : goal.invariant-loop-entry
invariant-loop-entry l = l.count ≡ count_by (is_of l.calls l.kind) (take l.entry-index l.entries)
