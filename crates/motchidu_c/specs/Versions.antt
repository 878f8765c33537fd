-- The versions of Linux whose calls may be the known ones: this project's own. The numbers are those of enum
-- motchidu_version in include/motchidu.h.
use Rattle.std.specs.Prelude.{ℕ, ◌==◌, if◌then◌else◌, Option, Some, None}
use Rattle.sys_table.specs.declared.calls.CallTable.{CallTable}
use Rattle.sys_table.specs.declared.calls.CallTable.TheVariants.{Linux5_8, Linux6_12}

-- the calls of the version with this number
abbrev pub calls_of : ℕ → Option CallTable
calls_of version = if version == 0 then Some Linux5_8 else if version == 1 then Some Linux6_12 else None
