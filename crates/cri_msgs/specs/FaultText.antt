-- The name of a fault as programs print it, this project's own: docs/SEMANTICS.md, "Messages".
use Rattle.std.specs.Prelude.{ℕ, List, ◌++◌, codes}
use Rattle.std.specs.Fmt.{decimal}
use Rattle.cri_msgs.specs.declared.faults.MessageFault.{MessageFault}
use Rattle.cri_msgs.specs.declared.faults.MessageFault.TheVariants.{NoMessage, Memory}

abbrev pub fault_text : MessageFault → List ℕ
fault_text (NoMessage id) = codes "NoMessage " ++ decimal id
fault_text Memory = codes "Memory"
