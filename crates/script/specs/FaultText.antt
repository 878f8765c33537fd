-- The name of a fault as programs print it, this project's own: docs/SEMANTICS.md, "Programs".
use Rattle.std.specs.Prelude.{ℕ, List, codes}
use Rattle.script.specs.declared.faults.ScriptFault.{ScriptFault}
use Rattle.script.specs.declared.faults.ScriptFault.TheVariants.{NotJson, Missing, WrongType, UnknownCall}
use Rattle.script.specs.declared.faults.ScriptFault.TheVariants.{TooMany, BadCode, BadFilter, Memory}

abbrev pub fault_text : ScriptFault → List ℕ
fault_text NotJson = codes "NotJson"
fault_text Missing = codes "Missing"
fault_text WrongType = codes "WrongType"
fault_text UnknownCall = codes "UnknownCall"
fault_text TooMany = codes "TooMany"
fault_text BadCode = codes "BadCode"
fault_text BadFilter = codes "BadFilter"
fault_text Memory = codes "Memory"
