-- How often an audit has each kind of call, this project's own: docs/SEMANTICS.md, "Programs".
use Rattle.std.specs.Prelude.{ℕ, ◌+◌, ◌-◌, ◌^◌, List, [], ◌∷◌, ◌++◌, codes, map, min, unwrap_or}
use Rattle.std.specs.BTreeMap.{insert_entry}
use Rattle.std.specs.Fmt.{decimal}
use Rattle.std.specs.declared.cmp.Ordering.{Ordering}
use Rattle.std.specs.Map.{lookup}
use Rattle.std.specs.Ordering.{is_eq, nat_cmp, ordering_then}
use Rattle.action.specs.Verdict.{name_of, verdict_of}
use Rattle.cell_records.specs.declared.tallies.CallKind.{CallKind}
use Rattle.cell_records.specs.RecordText.{call_members}
use Rattle.explain.specs.declared.explanation.Decider.{Decider}
use Rattle.denied_calls.specs.declared.audited.AuditedKind.{AuditedKind}
use Rattle.denied_calls.specs.declared.audited.AuditedRow.{AuditedRow}
use Rattle.denied_calls.specs.Shown.{call_text}
use Rattle.sys_table.specs.declared.calls.CallTable.{CallTable}

abbrev pub kind_order : AuditedKind → AuditedKind → Ordering
kind_order a b = ordering_then (nat_cmp a.nr b.nr)
    (ordering_then (nat_cmp a.arch b.arch) (nat_cmp a.value b.value))

-- how often the kind was seen
abbrev pub times : List (AuditedKind × ℕ) → AuditedKind → ℕ
times counts kind = unwrap_or (lookup (λ k. is_eq (kind_order kind k)) counts) 0

-- once more, as far as 64 bits go
abbrev pub one_more : ℕ → ℕ
one_more count = min (count + 1) (2 ^ 64 - 1)

-- with the kind seen once more
abbrev pub counted : List (AuditedKind × ℕ) → AuditedKind → List (AuditedKind × ℕ)
counted counts kind = insert_entry kind_order counts kind (one_more (times counts kind))

abbrev pub row_of : AuditedKind × ℕ → AuditedRow
row_of entry = record { count = record { 0 = entry.1 }; kind = entry.0 }

-- the most frequent first, and then by call and action
abbrev pub audited_order : AuditedRow → AuditedRow → Ordering
audited_order a b = ordering_then (nat_cmp b.count.0 a.count.0) (kind_order a.kind b.kind)

abbrev pub action_text : ℕ → List ℕ
action_text value = name_of (verdict_of value).action

abbrev pub audited_cells : CallTable → AuditedRow → List (List ℕ)
audited_cells calls row =
    call_text calls row.kind.nr row.kind.arch ∷ action_text row.kind.value ∷ decimal row.count.0 ∷ []

-- `by` follows the other members
abbrev pub audited_object : CallTable → AuditedRow → List ℕ → List ℕ
audited_object calls row by = codes "{" ++ (call_members calls (record {
  nr = row.kind.nr;
  arch = row.kind.arch;
  verdict = verdict_of row.kind.value;
}) ++ (codes ",\"action\":\"" ++ (action_text row.kind.value
    ++ (codes "\",\"count\":" ++ (decimal row.count.0 ++ (by ++ codes "}\n"))))))
