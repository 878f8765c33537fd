-- Why a line is no record, from what is wrong with its text or with a member.
use Rattle.json_tree.specs.declared.faults.FieldFault.{FieldFault}
use Rattle.json_tree.specs.declared.faults.FieldFault.TheVariants as field
use Rattle.json_tree.specs.declared.faults.TextFault.{TextFault}
use Rattle.json_tree.specs.declared.faults.TextFault.TheVariants as text
use Rattle.denied_calls.specs.declared.faults.LineFault.{LineFault}
use Rattle.denied_calls.specs.declared.faults.LineFault.TheVariants.{NotJson, Missing, WrongType, Memory}

abbrev pub of_text : TextFault → LineFault
of_text text.NotJson = NotJson
of_text text.Memory = Memory

abbrev pub of_field : FieldFault → LineFault
of_field field.Missing = Missing
of_field field.WrongType = WrongType
of_field field.Memory = Memory
