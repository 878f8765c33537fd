-- The names of faults as programs print them, this project's own: docs/SEMANTICS.md, "Programs".
use Rattle.std.specs.Prelude.{ℕ, List, ◌++◌, codes, Option, Some, None}
use Rattle.node_io.specs.declared.faults.FileFault.{FileFault}
use Rattle.node_io.specs.declared.faults.FileFault.TheVariants.{NotFound, TooLarge, Failed, Memory}
use Rattle.node_io.specs.declared.causes.Cause.{Cause}
use Rattle.node_io.specs.declared.faults.CausedFault.{CausedFault}
use Rattle.node_io.specs.Causes.{cause_text}

abbrev pub fault_text : FileFault → List ℕ
fault_text NotFound = codes "NotFound"
fault_text TooLarge = codes "TooLarge"
fault_text Failed = codes "Failed"
fault_text Memory = codes "Memory"

-- the cause after a name
abbrev pub with_cause : List ℕ → Option Cause → List ℕ
with_cause name None = name
with_cause name (Some cause) = name ++ (codes " (" ++ (cause_text cause ++ codes ")"))

abbrev pub caused_text : CausedFault → List ℕ
caused_text caused = with_cause (fault_text caused.fault) caused.cause
