-- The line of a container's record, this project's own: docs/SEMANTICS.md, "Records of containers".
use Rattle.std.specs.Prelude.{ℕ, ◌==◌, Bool, true, false, not, if◌then◌else◌, List, [], ◌∷◌, ◌++◌, codes}
use Rattle.std.specs.Prelude.{count_by, Option, Some, None}
use Rattle.std.specs.Fmt.{decimal}
use Rattle.serde_json.specs.Data.{string}
use Rattle.serde_json.specs.Written.{compact_text}
use Rattle.action.specs.Verdict.{name_of as name_of_action}
use Rattle.action.specs.declared.verdict.Verdict.{Verdict}
use Rattle.runtime_cell.specs.declared.label.Label.{Label}
use Rattle.runtime_cell.specs.Cell.{Cell, exit_of}
use Rattle.sys_table.specs.SysTable.{name_in}
use Rattle.sys_table.specs.declared.calls.CallTable.{CallTable}
use Rattle.oci_profile.specs.declared.profile.Profile.{Profile}
use Rattle.cell_records.specs.declared.tallies.CallKind.{CallKind}
use Rattle.cell_records.specs.declared.tallies.RecordCalls.{RecordCalls}
use Rattle.cell_records.specs.declared.tallies.Tally.{Tally}
use Rattle.cell_records.specs.Summary.{summary}

-- a text in quotes, escaped as JSON requires
abbrev pub quoted : List ℕ → List ℕ
quoted text = compact_text (string text)

-- the name of a known call, which is one of x86-64: 0xc000003e is AUDIT_ARCH_X86_64
unfoldable pub table_name : CallTable → ℕ → ℕ → Option (List ℕ)
table_name known arch nr = if arch == 0xc000003e then name_in known nr else None

abbrev pub name_member : Option (List ℕ) → List ℕ
name_member None = []
name_member (Some name) = codes "\"call\":\"" ++ (name ++ codes "\",")

unfoldable pub arch_member : ℕ → List ℕ
arch_member arch = if arch == 0xc000003e then [] else codes ",\"arch\":" ++ decimal arch

-- the call
abbrev pub call_members : CallTable → CallKind → List ℕ
call_members known kind = name_member (table_name known kind.arch kind.nr) ++ (codes "\"nr\":" ++ (decimal kind.nr
    ++ arch_member kind.arch))

-- the verdict's action and data
abbrev pub verdict_members : Verdict → List ℕ
verdict_members verdict = codes "\"action\":\"" ++ (name_of_action verdict.action ++ (codes "\",\"data\":"
    ++ decimal verdict.ret_data))

-- the call, its verdict, how often it had that verdict, and the place of the first time in the record
abbrev pub tally_object : CallTable → Tally → List ℕ
tally_object known tally =
    codes "{" ++ (call_members known tally.kind ++ (codes "," ++ (verdict_members tally.kind.verdict
    ++ (codes ",\"count\":" ++ (decimal tally.count ++ (codes ",\"first\":" ++ (decimal tally.first
    ++ codes "}")))))))

-- the tallies after the first of a list
abbrev pub other_tallies : CallTable → List Tally → List ℕ
other_tallies known [] = []
other_tallies known (t ∷ ts) = codes "," ++ (tally_object known t ++ other_tallies known ts)

-- the tallies, separated by commas
abbrev pub tallies_text : CallTable → List Tally → List ℕ
tallies_text known [] = []
tallies_text known (t ∷ ts) = tally_object known t ++ other_tallies known ts

abbrev pub exit_value : Option ℕ → List ℕ
exit_value None = codes "null"
exit_value (Some code) = decimal code

-- the kind of profile, followed by the path if it has a file
abbrev pub profile_value : Option (List ℕ) → Bool → List ℕ
profile_value (Some path) has_profile = quoted (codes "localhost/" ++ path)
profile_value None true = quoted (codes "runtime/default")
profile_value None false = quoted (codes "unconfined")

abbrev pub is_there : Option Profile → Bool
is_there None = false
is_there (Some profile) = true

-- the container of a cell, and its attempt
abbrev pub container_members : List ℕ → Label → List ℕ
container_members uid label =
    codes "\"uid\":" ++ (quoted uid ++ (codes ",\"name\":" ++ (quoted label.name
    ++ (codes ",\"attempt\":" ++ decimal label.attempt))))

-- the exit code, if it has ended, and its profile
abbrev pub end_members : Cell → List ℕ
end_members cell =
    codes "\"exit\":" ++ (exit_value (exit_of cell.state) ++ (codes ",\"profile\":"
    ++ profile_value cell.making.label.path (is_there cell.making.profile)))

-- the record of a cell of the sandbox with this uid
abbrev pub record_text : CallTable → RecordCalls → List ℕ → Cell → List ℕ
record_text known calls uid cell =
    codes "{" ++ (container_members uid cell.making.label ++ (codes "," ++ (end_members cell
    ++ (codes ",\"performed\":" ++ (decimal (count_by (λ entry. entry.performed) cell.entries)
    ++ (codes ",\"denied\":" ++ (decimal (count_by (λ entry. not entry.performed) cell.entries)
    ++ (codes ",\"calls\":[" ++ (tallies_text known (summary calls cell.entries) ++ codes "]}")))))))))
