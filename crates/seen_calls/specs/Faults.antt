-- Why a line is left out, and what is printed of it: this project's own, docs/SEMANTICS.md, "Learned
-- profiles".
use Rattle.std.specs.Prelude.{ℕ, ◌-◌, List, [], ◌++◌, codes}
use Rattle.std.specs.Fmt.{decimal}
use Rattle.sys_table.specs.SysTable.{limit_of}
use Rattle.json_tree.specs.declared.faults.FieldFault.{FieldFault}
use Rattle.json_tree.specs.declared.faults.FieldFault.TheVariants as field
use Rattle.json_tree.specs.declared.faults.TextFault.{TextFault}
use Rattle.json_tree.specs.declared.faults.TextFault.TheVariants as text
use Rattle.seen_calls.specs.declared.faults.LineFault.{LineFault}
use Rattle.seen_calls.specs.declared.faults.LineFault.TheVariants.{NotACall, OtherArchitecture, UnknownCall}
use Rattle.seen_calls.specs.declared.faults.LineFault.TheVariants.{TooLong, NotJson, Missing, WrongType, Memory}

abbrev pub of_text : TextFault → LineFault
of_text text.NotJson = NotJson
of_text text.Memory = Memory

abbrev pub of_field : FieldFault → LineFault
of_field field.Missing = Missing
of_field field.WrongType = WrongType
of_field field.Memory = Memory

abbrev pub fault_name : LineFault → List ℕ
fault_name NotACall = codes "NotACall"
fault_name OtherArchitecture = codes "OtherArchitecture"
fault_name (UnknownCall calls) = codes "UnknownCall"
fault_name TooLong = codes "TooLong"
fault_name NotJson = codes "NotJson"
fault_name Missing = codes "Missing"
fault_name WrongType = codes "WrongType"
fault_name Memory = codes "Memory"

-- what would be right
abbrev pub remark : LineFault → List ℕ
remark NotACall = codes " (not a whole line of strace, an audit, a record or a name)"
remark OtherArchitecture = codes " (only calls of x86-64 are learned)"
remark (UnknownCall calls) =
    codes " (the newest known call is " ++ (decimal (limit_of calls - 1) ++ codes ")")
remark TooLong = codes " (a line has at most 1,048,576 bytes)"
remark fault = []

abbrev pub fault_text : LineFault → List ℕ
fault_text fault = fault_name fault ++ remark fault
