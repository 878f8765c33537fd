-- Which instructions compare the number of a call: the word at offset 0 of struct seccomp_data, seccomp(2),
-- which is in A on every walk to them. Walks are those of bpf_verify, whatever the data.
use Rattle.std.specs.Prelude.{◌≡◌, ◌⊎◌, ℕ, Bool, true, false, List, [], ◌∷◌, Some, length, slice_get}
use Rattle.std.specs.Prelude.{slice_index_or}
use Rattle.bpf_code.specs.declared.insn.Insn.{Insn}
use Rattle.bpf_code.specs.declared.operation.Operation.{Operation}
use Rattle.bpf_code.specs.declared.operation.Operation.TheVariants.{LoadData, LoadXImmediate, LoadXWord}
use Rattle.bpf_code.specs.declared.operation.Operation.TheVariants.{LoadXLength, Store, StoreX, JumpEqualK}
use Rattle.bpf_code.specs.declared.operation.Operation.TheVariants.{JumpEqualX, JumpGreaterK, JumpGreaterX}
use Rattle.bpf_code.specs.declared.operation.Operation.TheVariants.{JumpGreaterOrEqualK, JumpGreaterOrEqualX}
use Rattle.bpf_code.specs.declared.operation.Operation.TheVariants.{JumpAnyBitK, JumpAnyBitX, Jump, ReturnK}
use Rattle.bpf_code.specs.declared.operation.Operation.TheVariants.{ReturnA, MoveToX}
use Rattle.bpf_verify.specs.Walks.{IsWalk}

-- the operation may change A
abbrev pub writes_a : Operation → Bool
writes_a LoadXImmediate = false
writes_a LoadXWord = false
writes_a LoadXLength = false
writes_a Store = false
writes_a StoreX = false
writes_a JumpEqualK = false
writes_a JumpEqualX = false
writes_a JumpGreaterK = false
writes_a JumpGreaterX = false
writes_a JumpGreaterOrEqualK = false
writes_a JumpGreaterOrEqualX = false
writes_a JumpAnyBitK = false
writes_a JumpAnyBitX = false
writes_a Jump = false
writes_a ReturnK = false
writes_a ReturnA = false
writes_a MoveToX = false
writes_a _ = true

-- the operation compares A with a constant
abbrev pub compares_constant : Operation → Bool
compares_constant JumpEqualK = true
compares_constant JumpGreaterK = true
compares_constant JumpGreaterOrEqualK = true
compares_constant _ = false

-- the instruction at this place loads the call's number into A
pub record LoadsNumber (code : List Insn) (at : ℕ) : Type 0 where
  pub insn : Insn
  pub stands : slice_get code at ≡ Some insn
  pub loads : insn.op ≡ LoadData
  pub number : insn.k ≡ 0

-- the instruction at this place leaves A as it is
pub record KeepsA (code : List Insn) (at : ℕ) : Type 0 where
  pub insn : Insn
  pub stands : slice_get code at ≡ Some insn
  pub keeps : writes_a insn.op ≡ false

-- after these places, the latest one first, A is the call's number
abbrev pub HoldsNumber : List Insn → List ℕ → Type 0
HoldsNumber code [] = ⊥
HoldsNumber code (last ∷ earlier) = LoadsNumber code last ⊎ (KeepsA code last × HoldsNumber code earlier)

-- some walk reaches the place
abbrev pub IsReached : List Insn → ℕ → Type 0
IsReached code at = (before : List ℕ) × IsWalk code before at

-- a walk reaches this place, whose instruction compares the call's number with a constant, whatever the walk
pub record IsNumberTest (code : List Insn) (at : ℕ) : Type 0 where
  pub insn : Insn
  pub stands : slice_get code at ≡ Some insn
  pub reached : IsReached code at
  pub compares : compares_constant insn.op ≡ true
  pub number : (before : List ℕ) → IsWalk code before at → HoldsNumber code before

-- one answer for each instruction, and each that is reported is such a comparison
pub record AreNumberTests (code : List Insn) (tests : List Bool) : Type 0 where
  pub as_many : length tests ≡ length code
  pub sound : (at : ℕ) → slice_index_or tests at false ≡ true → IsNumberTest code at
