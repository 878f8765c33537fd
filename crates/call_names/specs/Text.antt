-- Calls as they are shown, this project's own: docs/SEMANTICS.md, "Programs".
use Rattle.std.specs.Prelude.{ℕ, List, Option, Some, None}
use Rattle.std.specs.Fmt.{decimal}
use Rattle.sys_table.specs.SysTable.{name_in}
use Rattle.call_names.specs.declared.naming.Naming.{Naming}
use Rattle.call_names.specs.declared.naming.Naming.TheVariants.{Number, Name}

-- the name, if there is one
abbrev pub name_or : Option (List ℕ) → ℕ → List ℕ
name_or None nr = decimal nr
name_or (Some name) nr = name

abbrev pub call_text : Naming → ℕ → List ℕ
call_text Number nr = decimal nr
call_text (Name calls) nr = name_or (name_in calls nr) nr
