-- The calls that the record of a container lists, this project's own: docs/SEMANTICS.md, "Records of
-- containers".
use Rattle.std.specs.Prelude.{ℕ, ◌==◌, Bool, true, not, ◌&&◌, if◌then◌else◌, List, take, count_by}
use Rattle.std.specs.Prelude.{filter_map, Option, Some, None}
use Rattle.std.specs.List.{enumerate_from, list_any}
use Rattle.action.specs.Verdict.{value_of}
use Rattle.runtime_cell.specs.declared.calls.JudgedCall.{JudgedCall}
use Rattle.cell_records.specs.declared.tallies.CallKind.{CallKind}
use Rattle.cell_records.specs.declared.tallies.RecordCalls.{RecordCalls}
use Rattle.cell_records.specs.declared.tallies.RecordCalls.TheVariants.{Denied, All}
use Rattle.cell_records.specs.declared.tallies.Tally.{Tally}

-- the call of an entry without its arguments, and the verdict
abbrev pub kind_of : JudgedCall → CallKind
kind_of entry = record { nr = entry.call.nr; arch = entry.call.arch; verdict = entry.verdict }

-- the same number, the same architecture, and the same verdict
abbrev pub same_kind : CallKind → CallKind → Bool
same_kind a b = a.nr == b.nr && (a.arch == b.arch && (value_of a.verdict == value_of b.verdict))

-- whether a record of these calls lists the entry
abbrev pub is_listed : RecordCalls → JudgedCall → Bool
is_listed Denied entry = not entry.performed
is_listed All entry = true

-- whether the entry is listed, and of this kind
abbrev pub is_of : RecordCalls → CallKind → JudgedCall → Bool
is_of calls kind entry = is_listed calls entry && same_kind (kind_of entry) kind

-- whether the entry at this place is listed, and the first listed one of its kind
abbrev pub comes_first : RecordCalls → List JudgedCall → ℕ → JudgedCall → Bool
comes_first calls entries place entry = is_listed calls entry
    && not (list_any (is_of calls (kind_of entry)) (take place entries))

-- how often a kind is listed whose first entry is at this place
abbrev pub tally_of : RecordCalls → List JudgedCall → ℕ → CallKind → Tally
tally_of calls entries place kind = record {
  kind = kind;
  count = count_by (is_of calls kind) entries;
  first = place;
}

abbrev pub tally_at : RecordCalls → List JudgedCall → ℕ × JudgedCall → Option Tally
tally_at calls entries at = if comes_first calls entries at.0 at.1
    then Some (tally_of calls entries at.0 (kind_of at.1)) else None

-- a tally for each place at which a kind first occurs, in order: so each listed kind has one tally, with its
-- least place, and no other kind has one
abbrev pub summary : RecordCalls → List JudgedCall → List Tally
summary calls entries = filter_map (tally_at calls entries) (enumerate_from 0 entries)
