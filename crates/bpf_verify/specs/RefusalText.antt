-- The name of a refusal as programs print it: that of its fault.
use Rattle.std.specs.Prelude.{ℕ, List}
use Rattle.bpf_code.specs.FaultText.{fault_text as code_fault_text}
use Rattle.bpf_verify.specs.FaultText.{fault_text}
use Rattle.bpf_verify.specs.declared.refusal.Refusal.{Refusal}
use Rattle.bpf_verify.specs.declared.refusal.Refusal.TheVariants.{Code, Filter}

abbrev pub refusal_text : Refusal → List ℕ
refusal_text (Code fault) = code_fault_text fault
refusal_text (Filter fault) = fault_text fault
