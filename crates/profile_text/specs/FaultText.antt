-- The names of the faults.
use Rattle.std.specs.Prelude.{ℕ, List, codes}
use Rattle.profile_text.specs.declared.faults.WriteFault.{WriteFault}
use Rattle.profile_text.specs.declared.faults.WriteFault.TheVariants.{NoName, TooLarge, Memory}

abbrev pub fault_text : WriteFault → List ℕ
fault_text NoName = codes "NoName"
fault_text TooLarge = codes "TooLarge"
fault_text Memory = codes "Memory"
