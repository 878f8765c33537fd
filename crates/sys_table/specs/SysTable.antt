-- The system calls of Linux on x86-64: syscalls(2), with the numbers of asm/unistd_64.h.
use Rattle.std.specs.Prelude.{ℕ, ◌==◌, nat_lt, ◌&&◌, ◌||◌, Bool, true, false, not, List, [], ◌∷◌, codes, map}
use Rattle.std.specs.Prelude.{if◌then◌else◌, slice_index_or, position, Option, Some, None}
use Rattle.std.specs.Str.{bytes_eq}
use Rattle.sys_table.specs.declared.calls.CallTable.{CallTable}
use Rattle.sys_table.specs.declared.calls.CallTable.TheVariants.{Linux5_8, Linux6_12}
use Rattle.sys_table.specs.declared.table.TheConstants.{LATE_NUMBER, NAMES, NUMBER_LIMIT, TABLE_LIMIT}

-- the table: at each number the name of the call, and an empty text if no call has the number
unfoldable pub names : List (List ℕ)
names = map (λ name. name.now) NAMES

-- the calls of a version of Linux, if it has a table
abbrev pub table_of : List ℕ → Option CallTable
table_of version = if bytes_eq version (codes "5.8") then Some Linux5_8
    else if bytes_eq version (codes "6.12") then Some Linux6_12
    else None

-- the first number above those of these calls
abbrev pub limit_of : CallTable → ℕ
limit_of Linux5_8 = NUMBER_LIMIT
limit_of Linux6_12 = TABLE_LIMIT

-- whether the number of a late call is one of these calls
abbrev pub has_late : CallTable → Bool
has_late Linux5_8 = false
has_late Linux6_12 = true

-- whether a call of the table with this number is one of these calls
abbrev pub is_of : CallTable → ℕ → Bool
is_of calls number = nat_lt number (limit_of calls) && (has_late calls || not (number == LATE_NUMBER))

-- the table's text at this number, if it is one of these calls
abbrev pub text_in : CallTable → ℕ → List ℕ
text_in calls number = if is_of calls number then slice_index_or names number [] else []

-- no call has an empty name
abbrev pub named : List ℕ → Option (List ℕ)
named [] = None
named (c ∷ cs) = Some (c ∷ cs)

-- the place of this name in a table
abbrev pub place_in : List (List ℕ) → List ℕ → Option ℕ
place_in table [] = None
place_in table (c ∷ cs) = position (bytes_eq (c ∷ cs)) table

abbrev pub if_of : CallTable → Option ℕ → Option ℕ
if_of calls None = None
if_of calls (Some number) = if is_of calls number then Some number else None

-- the name of the call with this number, if it is one of these calls
unfoldable pub name_in : CallTable → ℕ → Option (List ℕ)
name_in calls number = named (text_in calls number)

-- the number of the call with this name, if it is one of these calls
unfoldable pub number_in : CallTable → List ℕ → Option ℕ
number_in calls name = if_of calls (place_in names name)

-- the same of the calls of Linux 5.8
abbrev pub name_of : ℕ → Option (List ℕ)
name_of = name_in Linux5_8

abbrev pub number_of : List ℕ → Option ℕ
number_of = number_in Linux5_8
