-- The name of a fault as programs print it, this project's own: docs/SEMANTICS.md, "Programs".
use Rattle.std.specs.Prelude.{ℕ, List, ◌++◌, codes}
use Rattle.std.specs.Fmt.{decimal}
use Rattle.bpf_verify.specs.declared.fault.Fault.{Fault}
use Rattle.bpf_verify.specs.declared.fault.Fault.TheVariants.{Empty, TooLong, BadOffset, BadJump, BadWord}
use Rattle.bpf_verify.specs.declared.fault.Fault.TheVariants.{BadShift, ZeroDivisor, NoFinalReturn, Unstored}

abbrev pub fault_text : Fault → List ℕ
fault_text Empty = codes "Empty"
fault_text TooLong = codes "TooLong"
fault_text (BadOffset at) = codes "BadOffset at " ++ decimal at
fault_text (BadJump at) = codes "BadJump at " ++ decimal at
fault_text (BadWord at) = codes "BadWord at " ++ decimal at
fault_text (BadShift at) = codes "BadShift at " ++ decimal at
fault_text (ZeroDivisor at) = codes "ZeroDivisor at " ++ decimal at
fault_text NoFinalReturn = codes "NoFinalReturn"
fault_text (Unstored at) = codes "Unstored at " ++ decimal at
