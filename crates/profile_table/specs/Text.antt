-- The printed lines of a table, this project's own: docs/SEMANTICS.md, "Programs".
use Rattle.std.specs.Prelude.{ℕ, ◌+◌, ◌==◌, nat_lt, Bool, true, false, not, ◌&&◌, if◌then◌else◌}
use Rattle.std.specs.Prelude.{List, [], ◌∷◌, ◌++◌, codes, length}
use Rattle.std.specs.Fmt.{decimal}
use Rattle.call_names.specs.declared.naming.Naming.TheVariants.{Name}
use Rattle.call_names.specs.Text.{call_text}
use Rattle.call_names.specs.Words.{argument_text}
use Rattle.oci_profile.specs.declared.conditions.Cond.{Cond}
use Rattle.oci_profile.specs.declared.conditions.Op.{Op}
use Rattle.oci_profile.specs.declared.conditions.Op.TheVariants.{NotEqual, Less, LessOrEqual, Equal}
use Rattle.oci_profile.specs.declared.conditions.Op.TheVariants.{GreaterOrEqual, Greater, MaskedEqual}
use Rattle.oci_profile.specs.declared.profile.Entry.{Entry}
use Rattle.oci_profile.specs.declared.profile.Profile.{Profile}
use Rattle.oci_profile.specs.Decision.{value_of}
use Rattle.oci_profile.specs.Meaning.{names}
use Rattle.explain.specs.declared.explanation.Decider.{Decider}
use Rattle.explain.specs.declared.explanation.Decider.TheVariants as by
use Rattle.explain.specs.Text.{decided_text}
use Rattle.sys_table.specs.declared.calls.CallTable.{CallTable}
use Rattle.profile_table.specs.declared.row.Row.{Row}

abbrev pub compared_text : Op → ℕ → ℕ → List ℕ
compared_text NotEqual value two = codes " != " ++ argument_text value
compared_text Less value two = codes " < " ++ argument_text value
compared_text LessOrEqual value two = codes " <= " ++ argument_text value
compared_text Equal value two = codes " == " ++ argument_text value
compared_text GreaterOrEqual value two = codes " >= " ++ argument_text value
compared_text Greater value two = codes " > " ++ argument_text value
compared_text MaskedEqual value two = codes " & " ++ (argument_text value ++ (codes " == " ++ argument_text two))

-- a condition, as `args[0] & 0x7e020000 == 0`
abbrev pub cond_text : Cond → List ℕ
cond_text cond =
    codes "args[" ++ (decimal cond.index ++ (codes "]" ++ compared_text cond.op cond.value cond.value_two))

-- the word before the first condition, and before each other one
unfoldable pub cond_word : ℕ → List ℕ
cond_word place = if place == 0 then codes " if " else codes " and "

-- conditions from this place on
abbrev pub conds_text : ℕ → List Cond → List ℕ
conds_text place [] = []
conds_text place (cond ∷ conds) = cond_word place ++ (cond_text cond ++ conds_text (place + 1) conds)

-- an entry that decides if its conditions hold
abbrev pub way_text : ℕ → Entry → List ℕ
way_text place entry =
    decided_text (value_of entry.decision) (by.Entry place) ++ (conds_text 0 entry.conds ++ codes ", else ")

-- whether the entry at this place comes before the one that decides
abbrev pub is_before : ℕ → Decider → Bool
is_before place by.Architecture = false
is_before place by.X32Bit = false
is_before place (by.Entry end) = nat_lt place end
is_before place by.Default = true

-- what is printed of an entry, if it comes before the one that decides and names the number
unfoldable pub way_at : Row → ℕ → Entry → List ℕ
way_at row place entry =
    if is_before place row.decider && names entry row.nr then way_text place entry else []

-- the entries before that name the number, in order
abbrev pub ways_text : Row → ℕ → List Entry → List ℕ
ways_text row place [] = []
ways_text row place (entry ∷ entries) = way_at row place entry ++ ways_text row (place + 1) entries

-- a call that entries with conditions may decide
unfoldable pub asked_text : CallTable → Profile → Row → List ℕ
asked_text calls profile row =
    if row.is_asked then call_text (Name calls) row.nr ++ (codes ": " ++ (ways_text row 0 profile.entries
    ++ (decided_text row.value row.decider ++ codes "\n")))
    else []

abbrev pub asked_lines : CallTable → Profile → List Row → List ℕ
asked_lines calls profile [] = []
asked_lines calls profile (row ∷ rows) = asked_text calls profile row ++ asked_lines calls profile rows

-- whether the row's calls are all decided by this
abbrev pub is_same : Decider → Decider → Bool
is_same by.Architecture by.Architecture = true
is_same by.X32Bit by.X32Bit = true
is_same (by.Entry place) (by.Entry other) = place == other
is_same by.Default by.Default = true
is_same by.Architecture other = false
is_same by.X32Bit other = false
is_same (by.Entry place) other = false
is_same by.Default other = false

unfoldable pub number_in : Decider → Row → List ℕ
number_in decider row = if not row.is_asked && is_same row.decider decider then row.nr ∷ [] else []

-- the numbers of the calls that are all decided by this, in order
abbrev pub numbers_in : Decider → List Row → List ℕ
numbers_in decider [] = []
numbers_in decider (row ∷ rows) = number_in decider row ++ numbers_in decider rows

-- the word before the first name, and before each other one
unfoldable pub name_word : ℕ → List ℕ
name_word place = if place == 0 then codes ": " else codes ", "

-- names of calls from this place on
abbrev pub names_text : CallTable → ℕ → List ℕ → List ℕ
names_text calls place [] = []
names_text calls place (nr ∷ numbers) =
    name_word place ++ (call_text (Name calls) nr ++ names_text calls (place + 1) numbers)

unfoldable pub count_text : ℕ → List ℕ
count_text count = if count == 1 then codes "1 call" else decimal count ++ codes " calls"

-- calls that are all decided by this, with this value: nothing if there are none
abbrev pub group_text : CallTable → ℕ → Decider → List ℕ → List ℕ
group_text calls value decider [] = []
group_text calls value decider (nr ∷ numbers) =
    decided_text value decider ++ (codes ", " ++ (count_text (length (nr ∷ numbers))
    ++ (names_text calls 0 (nr ∷ numbers) ++ codes "\n")))

-- the groups of entries from this place on
abbrev pub entry_lines : CallTable → List Row → ℕ → List Entry → List ℕ
entry_lines calls rows place [] = []
entry_lines calls rows place (entry ∷ entries) =
    group_text calls (value_of entry.decision) (by.Entry place) (numbers_in (by.Entry place) rows)
    ++ entry_lines calls rows (place + 1) entries

-- the calls that each entry decides, those that the default decides, and each call that is asked about
abbrev pub table_text : CallTable → Profile → List Row → List ℕ
table_text calls profile rows =
    entry_lines calls rows 0 profile.entries
    ++ (group_text calls (value_of profile.default) by.Default (numbers_in by.Default rows)
    ++ asked_lines calls profile rows)
