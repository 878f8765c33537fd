-- Sound filters: the kernel's rules for a seccomp filter (seccomp(2), linux/filter.h), narrowed as
-- docs/SEMANTICS.md, "Sound filters", says. They cover all walks, and define no way to check them.
use Rattle.std.specs.Prelude.{◌≡◌, ℕ, ◌+◌, ◌-◌, ◌%◌, ◌<◌, ◌≤◌, List, Some, slice_get, length}
use Rattle.bpf_code.specs.declared.insn.Insn.{Insn}
use Rattle.bpf_code.specs.declared.operation.Operation.{Operation}
use Rattle.bpf_code.specs.declared.operation.Operation.TheVariants.{LoadData, LoadWord, LoadXWord, Store}
use Rattle.bpf_code.specs.declared.operation.Operation.TheVariants.{StoreX, DivK, ShiftLeft, ShiftRight}
use Rattle.bpf_code.specs.declared.flow.Flow.{Flow}
use Rattle.bpf_code.specs.declared.flow.Flow.TheVariants.{Returns, Jumps, Branches, Continues}
use Rattle.bpf_code.specs.declared.flow.Scratch.TheVariants.{Loads}
use Rattle.bpf_code.specs.declared.limits.TheConstants.{MAX_INSNS, DATA_LEN, SCRATCH_WORDS}
use Rattle.bpf_code.specs.Flow.{flow_of, scratch_of}
use Rattle.bpf_verify.specs.Walks.{IsWalk, IsStoredOn}

-- the operation can work with its number
abbrev pub KeepsNumber : Operation → ℕ → Type 0
KeepsNumber LoadData k = (k < DATA_LEN) × (k % 4 ≡ 0)
KeepsNumber LoadWord k = k < SCRATCH_WORDS
KeepsNumber LoadXWord k = k < SCRATCH_WORDS
KeepsNumber Store k = k < SCRATCH_WORDS
KeepsNumber StoreX k = k < SCRATCH_WORDS
KeepsNumber DivK k = 0 < k
KeepsNumber ShiftLeft k = k < 32
KeepsNumber ShiftRight k = k < 32
KeepsNumber _ k = Unit {0}

-- the targets of its jumps are in code of this length
abbrev pub KeepsTargets : Flow → Insn → ℕ → ℕ → Type 0
KeepsTargets Jumps insn at len = at + 1 + insn.k < len
KeepsTargets Branches insn at len = (at + 1 + insn.jt < len) × (at + 1 + insn.jf < len)
KeepsTargets Returns insn at len = Unit {0}
KeepsTargets Continues insn at len = Unit {0}

-- the rules for an instruction by itself, at its place in code of this length
pub record KeepsRules (len at : ℕ) (insn : Insn) : Type 0 where
  pub number : KeepsNumber insn.op insn.k
  pub targets : KeepsTargets (flow_of insn.op) insn at len

-- each instruction keeps these rules
abbrev pub AllKeepRules : List Insn → Type 0
AllKeepRules code = (at : ℕ) (insn : Insn) → slice_get code at ≡ Some insn → KeepsRules (length code) at insn

-- the last instruction is a return
pub record EndsWithReturn (code : List Insn) : Type 0 where
  pub insn : Insn
  pub stands : slice_get code (length code - 1) ≡ Some insn
  pub returns : flow_of insn.op ≡ Returns

-- on every walk to this place the word was stored before
abbrev pub IsStoredBefore : List Insn → ℕ → ℕ → Type 0
IsStoredBefore code at word = (before : List ℕ) → IsWalk code before at → IsStoredOn code word before

-- a load at this place finds the word that it loads
abbrev pub FindsWord : List Insn → ℕ → Insn → Type 0
FindsWord code at insn = scratch_of insn.op ≡ Loads → IsStoredBefore code at insn.k

-- a sound filter
pub record IsSound (code : List Insn) : Type 0 where
  pub some : 0 < length code
  pub short : length code ≤ MAX_INSNS
  pub places : AllKeepRules code
  pub last : EndsWithReturn code
  pub words : (at : ℕ) (insn : Insn) → slice_get code at ≡ Some insn → FindsWord code at insn
