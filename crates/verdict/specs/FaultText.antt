-- The name of a fault as programs print it, this project's own: docs/SEMANTICS.md, "Programs".
use Rattle.std.specs.Prelude.{ℕ, List, codes}
use Rattle.verdict.specs.declared.stack.StackFault.{StackFault}
use Rattle.verdict.specs.declared.stack.StackFault.TheVariants.{TooManyInsns, Memory}

abbrev pub fault_text : StackFault → List ℕ
fault_text TooManyInsns = codes "TooManyInsns"
fault_text Memory = codes "Memory"
