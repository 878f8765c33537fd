-- What is printed of a word that should be a call and is none: the fault's name, and what the word is. This
-- project's own, docs/SEMANTICS.md, "Programs".
use Rattle.std.specs.Prelude.{ℕ, ◌==◌, nat_le, Bool, false, ◌&&◌, ◌||◌, if◌then◌else◌, List, [], ◌∷◌, ◌++◌}
use Rattle.std.specs.Prelude.{codes, Option, Some, None}
use Rattle.std.specs.Fmt.{decimal}
use Rattle.std.specs.List.{list_any}
use Rattle.sys_table.specs.declared.calls.CallTable.{CallTable}
use Rattle.absent_names.specs.Kinds.{kind_of}
use Rattle.absent_names.specs.Near.{suggestion}
use Rattle.absent_names.specs.declared.kind.AbsentName.{AbsentName}
use Rattle.absent_names.specs.declared.kind.AbsentName.TheVariants as absent

-- `/` and `.`
abbrev pub is_file_byte : ℕ → Bool
is_file_byte b = (b == 47) || (b == 46)

-- a path, or a name with an extension
abbrev pub is_file : List ℕ → Bool
is_file word = list_any is_file_byte word

-- letters and `_`
abbrev pub is_name_byte : ℕ → Bool
is_name_byte b = ((nat_le 97 b && nat_le b 122) || (nat_le 65 b && nat_le b 90)) || (b == 95)

abbrev pub begins_name : List ℕ → Bool
begins_name [] = false
begins_name (b ∷ bytes) = is_name_byte b

abbrev pub unknown_fault : List ℕ → List ℕ
unknown_fault word = if begins_name word then codes "BadNumber (no call of that name)" else codes "BadNumber"

abbrev pub near_fault : List ℕ → Option (List ℕ) → List ℕ
near_fault word None = unknown_fault word
near_fault word (Some call) = codes "BadNumber (no call of that name; near: " ++ (call ++ codes ")")

abbrev pub absent_fault : CallTable → List ℕ → AbsentName → List ℕ
absent_fault known word (absent.Newer number) = codes "BadNumber (call " ++ (decimal number
    ++ codes ", newer than the table: give the number)")
absent_fault known word absent.NotImplemented = codes "BadNumber (not implemented on x86-64)"
absent_fault known word absent.OtherArchitecture = codes "BadNumber (a call of other architectures)"
absent_fault known word absent.Unknown = near_fault word (suggestion known word)

unfoldable pub call_fault : CallTable → List ℕ → List ℕ
call_fault known word = if is_file word then codes "BadNumber (a file? it comes first)"
    else absent_fault known word (kind_of word)
