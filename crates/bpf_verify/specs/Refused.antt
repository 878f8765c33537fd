-- Which bytes are a filter, and why others are refused: their text's first fault, else the first fault
-- of the code that they spell.
use Rattle.std.specs.Prelude.{◌≡◌, ◌≢◌, List, ℕ}
use Rattle.std.specs.List.{AllByRecursion}
use Rattle.bpf_code.specs.declared.insn.Insn.{Insn}
use Rattle.bpf_code.specs.declared.fault.CodeFault.TheVariants.{Memory}
use Rattle.bpf_code.specs.Code.{Fits, bytes_of_code}
use Rattle.bpf_code.specs.Reading.{HasFault}
use Rattle.bpf_verify.specs.Faults.{IsFirstFault}
use Rattle.bpf_verify.specs.declared.refusal.Refusal.{Refusal}
use Rattle.bpf_verify.specs.declared.refusal.Refusal.TheVariants.{Code, Filter}

-- the bytes spell this code, and no other: its numbers fit their fields
pub record IsTextOf (bytes : List ℕ) (code : List Insn) : Type 0 where
  pub text : bytes ≡ bytes_of_code code
  pub fits : AllByRecursion Fits code

-- running out of memory is not a fault of the text
abbrev pub IsRefused : List ℕ → Refusal → Type 0
IsRefused bytes (Code fault) = fault ≢ Memory → HasFault bytes fault
IsRefused bytes (Filter fault) = (code : List Insn) × IsTextOf bytes code × IsFirstFault code fault
