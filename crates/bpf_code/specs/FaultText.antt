-- The name of a fault as programs print it, this project's own: docs/SEMANTICS.md, "Programs".
use Rattle.std.specs.Prelude.{ℕ, List, ◌++◌, codes}
use Rattle.std.specs.Fmt.{decimal}
use Rattle.bpf_code.specs.declared.fault.CodeFault.{CodeFault}
use Rattle.bpf_code.specs.declared.fault.CodeFault.TheVariants.{Length, TooLong, BadCode, Memory}

abbrev pub fault_text : CodeFault → List ℕ
fault_text Length = codes "Length"
fault_text TooLong = codes "TooLong"
fault_text (BadCode at) = codes "BadCode at " ++ decimal at
fault_text Memory = codes "Memory"
