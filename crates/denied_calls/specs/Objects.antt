-- Denied calls as objects of JSON (RFC 8259), one a line, this project's own: docs/SEMANTICS.md, "Programs".
use Rattle.std.specs.Prelude.{ℕ, List, [], ◌∷◌, ◌++◌, codes, string_bytes}
use Rattle.std.specs.Fmt.{decimal}
use Rattle.action.specs.Verdict.{verdict_of}
use Rattle.explain.specs.Text.{decider_text}
use Rattle.explain.specs.declared.explanation.Decider.{Decider}
use Rattle.cell_records.specs.declared.tallies.CallKind.{CallKind}
use Rattle.cell_records.specs.RecordText.{call_members, quoted, verdict_members}
use Rattle.denied_calls.specs.declared.sighting.Sighting.{Sighting}
use Rattle.denied_calls.specs.declared.totalling.Total.{Total}
use Rattle.sys_table.specs.declared.calls.CallTable.{CallTable}

abbrev pub kind_of : ℕ → ℕ → ℕ → CallKind
kind_of nr arch value = record { nr = nr; arch = arch; verdict = verdict_of value }

abbrev pub container_members : Sighting → List ℕ
container_members s = codes "\"uid\":" ++ (quoted (string_bytes s.uid) ++ (codes ",\"name\":"
    ++ quoted (string_bytes s.name)))

abbrev pub place_members : Sighting → List ℕ
place_members s = codes "\"attempt\":" ++ (decimal s.attempt ++ (codes ",\"first\":" ++ decimal s.first))

-- `by` comes after the other members
abbrev pub row_object : CallTable → Sighting → ℕ → List ℕ → List ℕ
row_object calls s count by =
    codes "{" ++ (container_members s ++ (codes "," ++ (call_members calls (kind_of s.nr s.arch s.value)
    ++ (codes "," ++ (verdict_members (verdict_of s.value) ++ (codes ",\"count\":" ++ (decimal count
    ++ (codes "," ++ (place_members s ++ (by ++ codes "}\n"))))))))))

abbrev pub total_object : CallTable → Total → List ℕ
total_object calls t =
    codes "{" ++ (call_members calls (kind_of t.nr t.arch t.value) ++ (codes ","
    ++ (verdict_members (verdict_of t.value) ++ (codes ",\"count\":" ++ (decimal t.count.0
    ++ (codes ",\"containers\":" ++ (decimal t.containers ++ codes "}\n")))))))

abbrev pub other_items : List Decider → List ℕ
other_items [] = []
other_items (decider ∷ deciders) = codes ",\"" ++ (decider_text decider ++ (codes "\"" ++ other_items deciders))

-- a comma between each two
abbrev pub by_items : List Decider → List ℕ
by_items [] = []
by_items (decider ∷ deciders) = codes "\"" ++ (decider_text decider ++ (codes "\"" ++ other_items deciders))

abbrev pub by_member : List Decider → List ℕ
by_member deciders = codes ",\"by\":[" ++ (by_items deciders ++ codes "]")
