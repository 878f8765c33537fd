-- The calls that lines may have: this project's own, docs/SEMANTICS.md, "Learned profiles".
use Rattle.std.specs.Prelude.{ℕ, ◌<◌, List, is_some, if◌then◌else◌, Option, Some, None, Result, Ok, Err}
use Rattle.sys_table.specs.SysTable.{limit_of, name_in}
use Rattle.sys_table.specs.declared.calls.CallTable.{CallTable}
use Rattle.sys_table.specs.declared.table.TheConstants.{TABLE_LIMIT}
use Rattle.seen_calls.specs.declared.faults.LineFault.{LineFault}
use Rattle.seen_calls.specs.declared.faults.LineFault.TheVariants.{UnknownCall}
use Rattle.seen_calls.specs.declared.line.Line.{Line}
use Rattle.seen_calls.specs.declared.line.Line.TheVariants.{Nothing, Call, Resumed, Record}

-- the number, if one of these calls has it
abbrev pub known : CallTable → ℕ → Result ℕ LineFault
known calls number = if is_some (name_in calls number) then Ok number else Err (UnknownCall calls)

abbrev pub in_table : CallTable → Option ℕ → Result ℕ LineFault
in_table calls None = Err (UnknownCall calls)
in_table calls (Some number) = Ok number

-- the call of a line, if it has one, is one of these calls
abbrev pub IsOfTable : CallTable → Line → Type 0
IsOfTable calls Nothing = Unit {0}
IsOfTable calls Record = Unit {0}
IsOfTable calls (Call sighting) = sighting.number < limit_of calls
IsOfTable calls (Resumed number) = number < limit_of calls

-- and so one of the whole table
abbrev pub IsSmall : Line → Type 0
IsSmall Nothing = Unit {0}
IsSmall Record = Unit {0}
IsSmall (Call sighting) = sighting.number < TABLE_LIMIT
IsSmall (Resumed number) = number < TABLE_LIMIT
