-- A table as JSON objects (RFC 8259), one per line, this project's own: docs/SEMANTICS.md, "Programs". No
-- text of these has a byte that JSON would escape.
use Rattle.std.specs.Prelude.{ℕ, ◌+◌, ◌==◌, ◌&&◌, if◌then◌else◌, List, [], ◌∷◌, ◌++◌, codes}
use Rattle.call_names.specs.declared.naming.Naming.TheVariants.{Name}
use Rattle.call_names.specs.Text.{call_text}
use Rattle.explain.specs.declared.explanation.Decider.{Decider}
use Rattle.explain.specs.declared.explanation.Decider.TheVariants as by
use Rattle.explain.specs.Objects.{decided_members}
use Rattle.oci_profile.specs.declared.conditions.Cond.{Cond}
use Rattle.oci_profile.specs.declared.profile.Entry.{Entry}
use Rattle.oci_profile.specs.declared.profile.Profile.{Profile}
use Rattle.oci_profile.specs.Decision.{value_of}
use Rattle.oci_profile.specs.Meaning.{names}
use Rattle.sys_table.specs.declared.calls.CallTable.{CallTable}
use Rattle.profile_table.specs.declared.row.Row.{Row}
use Rattle.profile_table.specs.Text.{cond_text, is_before, numbers_in}

-- the comma before each item but the first
unfoldable pub comma : ℕ → List ℕ
comma place = if place == 0 then [] else codes ","

-- conditions from this place on, each as words
abbrev pub conds_items : ℕ → List Cond → List ℕ
conds_items place [] = []
conds_items place (cond ∷ conds) =
    comma place ++ (codes "\"" ++ (cond_text cond ++ (codes "\"" ++ conds_items (place + 1) conds)))

-- names of calls from this place on
abbrev pub names_items : CallTable → ℕ → List ℕ → List ℕ
names_items calls place [] = []
names_items calls place (nr ∷ numbers) =
    comma place ++ (codes "\"" ++ (call_text (Name calls) nr ++ (codes "\""
    ++ names_items calls (place + 1) numbers)))

-- an entry that decides if its conditions hold
abbrev pub way_object : ℕ → Entry → List ℕ
way_object place entry =
    codes "{" ++ (decided_members (value_of entry.decision) (by.Entry place) ++ (codes ",\"if\":["
    ++ (conds_items 0 entry.conds ++ codes "]},")))

-- what is printed of an entry, if it comes before the one that decides and names the number
unfoldable pub way_object_at : Row → ℕ → Entry → List ℕ
way_object_at row place entry =
    if is_before place row.decider && names entry row.nr then way_object place entry else []

abbrev pub ways_objects : Row → ℕ → List Entry → List ℕ
ways_objects row place [] = []
ways_objects row place (entry ∷ entries) =
    way_object_at row place entry ++ ways_objects row (place + 1) entries

-- a call that entries with conditions may decide
unfoldable pub asked_object : CallTable → Profile → Row → List ℕ
asked_object calls profile row =
    if row.is_asked then codes "{\"call\":\"" ++ (call_text (Name calls) row.nr ++ (codes "\",\"ways\":["
    ++ (ways_objects row 0 profile.entries ++ (codes "{" ++ (decided_members row.value row.decider
    ++ codes "}]}\n")))))
    else []

abbrev pub asked_objects : CallTable → Profile → List Row → List ℕ
asked_objects calls profile [] = []
asked_objects calls profile (row ∷ rows) = asked_object calls profile row ++ asked_objects calls profile rows

-- calls that are all decided by this, with this value: nothing if there are none
abbrev pub group_object : CallTable → ℕ → Decider → List ℕ → List ℕ
group_object calls value decider [] = []
group_object calls value decider (nr ∷ numbers) =
    codes "{" ++ (decided_members value decider ++ (codes ",\"calls\":[" ++ (names_items calls 0 (nr ∷ numbers)
    ++ codes "]}\n")))

-- the groups of entries from this place on
abbrev pub entry_objects : CallTable → List Row → ℕ → List Entry → List ℕ
entry_objects calls rows place [] = []
entry_objects calls rows place (entry ∷ entries) =
    group_object calls (value_of entry.decision) (by.Entry place) (numbers_in (by.Entry place) rows)
    ++ entry_objects calls rows (place + 1) entries

-- an object for each line of the table
abbrev pub table_objects : CallTable → Profile → List Row → List ℕ
table_objects calls profile rows =
    entry_objects calls rows 0 profile.entries
    ++ (group_object calls (value_of profile.default) by.Default (numbers_in by.Default rows)
    ++ asked_objects calls profile rows)
