-- Which fault of a filter is reported: the first one, in this project's own order. Places are checked whether
-- a walk reaches them or not; only an unstored word needs a walk.
use Rattle.std.specs.Prelude.{◌≡◌, ℕ, ◌<◌, ◌≤◌, List, Some, slice_get, length}
use Rattle.bpf_code.specs.declared.insn.Insn.{Insn}
use Rattle.bpf_code.specs.declared.operation.Operation.{Operation}
use Rattle.bpf_code.specs.declared.operation.Operation.TheVariants.{LoadData, LoadWord, LoadXWord, Store}
use Rattle.bpf_code.specs.declared.operation.Operation.TheVariants.{StoreX, DivK, ShiftLeft, ShiftRight}
use Rattle.bpf_code.specs.declared.flow.Scratch.TheVariants.{Loads}
use Rattle.bpf_code.specs.declared.limits.TheConstants.{MAX_INSNS}
use Rattle.bpf_code.specs.Flow.{scratch_of}
use Rattle.bpf_verify.specs.Walks.{IsWalk, IsStoredOn}
use Rattle.bpf_verify.specs.Sound.{KeepsRules, AllKeepRules, EndsWithReturn, FindsWord}
use Rattle.bpf_verify.specs.declared.fault.Fault.{Fault}
use Rattle.bpf_verify.specs.declared.fault.Fault.TheVariants.{Empty, TooLong, BadOffset, BadJump, BadWord}
use Rattle.bpf_verify.specs.declared.fault.Fault.TheVariants.{BadShift, ZeroDivisor, NoFinalReturn, Unstored}

-- the fault of an instruction that breaks a rule: an operation has one rule at most
abbrev pub broken_by : Operation → ℕ → Fault
broken_by LoadData at = BadOffset at
broken_by LoadWord at = BadWord at
broken_by LoadXWord at = BadWord at
broken_by Store at = BadWord at
broken_by StoreX at = BadWord at
broken_by DivK at = ZeroDivisor at
broken_by ShiftLeft at = BadShift at
broken_by ShiftRight at = BadShift at
broken_by _ at = BadJump at

-- this place is the lowest that breaks a rule, and this is its fault
pub record IsFirstBroken (code : List Insn) (at : ℕ) (fault : Fault) : Type 0 where
  pub insn : Insn
  pub stands : slice_get code at ≡ Some insn
  pub breaks : ¬ KeepsRules (length code) at insn
  pub told : fault ≡ broken_by insn.op at
  pub earlier_keep : (earlier : ℕ) (other : Insn) → earlier < at → slice_get code earlier ≡ Some other
      → KeepsRules (length code) earlier other

-- this place is the lowest at which a word is loaded that a walk to it did not store
pub record IsFirstUnstored (code : List Insn) (at : ℕ) : Type 0 where
  pub insn : Insn
  pub stands : slice_get code at ≡ Some insn
  pub loads : scratch_of insn.op ≡ Loads
  pub before : List ℕ
  pub walk : IsWalk code before at
  pub unstored : ¬ IsStoredOn code insn.k before
  pub earlier_find : (earlier : ℕ) (other : Insn) → earlier < at → slice_get code earlier ≡ Some other
      → FindsWord code earlier other

-- the length is within its limits
pub record HasLength (code : List Insn) : Type 0 where
  pub some : 0 < length code
  pub short : length code ≤ MAX_INSNS

-- the first fault, in this order
pub data IsFirstFault (code : List Insn) (fault : Fault) : Type 0 where
  is_empty : length code ≡ 0 → fault ≡ Empty → IsFirstFault code fault
  is_too_long : MAX_INSNS < length code → fault ≡ TooLong → IsFirstFault code fault
  breaks_rule : HasLength code → (at : ℕ) → IsFirstBroken code at fault → IsFirstFault code fault
  has_no_return : HasLength code → AllKeepRules code → ¬ EndsWithReturn code → fault ≡ NoFinalReturn
      → IsFirstFault code fault
  loads_unstored : HasLength code → AllKeepRules code → EndsWithReturn code → (at : ℕ)
      → IsFirstUnstored code at → fault ≡ Unstored at → IsFirstFault code fault
