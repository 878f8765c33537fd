-- The calls of a record that are listed so far. Only private functions cite this.
use Rattle.std.specs.Prelude.{Bool, not, ◌&&◌, List}
use Rattle.std.specs.List.{list_any}
use Rattle.runtime_cell.specs.declared.calls.JudgedCall.{JudgedCall}
use Rattle.cell_records.specs.declared.tallies.CallKind.{CallKind}
use Rattle.cell_records.specs.declared.tallies.RecordCalls.{RecordCalls}
use Rattle.cell_records.specs.declared.tallies.Tally.{Tally}
use Rattle.cell_records.specs.Summary.{is_listed, kind_of, same_kind}

-- one of the tallies is of this kind
abbrev pub is_told : CallKind → List Tally → Bool
is_told kind tallies = list_any (λ tally. same_kind tally.kind kind) tallies

-- the entry is listed, and its kind has no tally
abbrev pub is_new : RecordCalls → List Tally → JudgedCall → Bool
is_new calls tallies entry = is_listed calls entry && not (is_told (kind_of entry) tallies)
