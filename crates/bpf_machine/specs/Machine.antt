-- One step of the classic BPF machine, linux/filter.h, with the data of seccomp(2). A state from which
-- no step leads is stuck: outside the code, at a load from outside the data or across two of its words,
-- at a word that does not exist or was not stored, at a division by the constant 0, at too wide a shift.
-- Registers and words are 32 bits, and begin as docs/SEMANTICS.md, "The machine", says.
use Rattle.std.specs.Prelude.{◌≡◌, ℕ, ◌+◌, ◌-◌, ◌*◌, ◌/◌, ◌%◌, ◌^◌, ◌<◌, ◌==◌, nat_lt, nat_le, Bool, not}
use Rattle.std.specs.Prelude.{if◌then◌else◌, List, Option, Some, None, slice_get, bit_and, bit_or, bit_xor}
use Rattle.bpf_code.specs.declared.insn.Insn.{Insn}
use Rattle.bpf_code.specs.declared.operation.Operation.{Operation}
use Rattle.bpf_code.specs.declared.operation.Operation.TheVariants.{LoadImmediate, LoadData, LoadWord}
use Rattle.bpf_code.specs.declared.operation.Operation.TheVariants.{LoadLength, LoadXImmediate, LoadXWord}
use Rattle.bpf_code.specs.declared.operation.Operation.TheVariants.{LoadXLength, Store, StoreX, AddK, AddX}
use Rattle.bpf_code.specs.declared.operation.Operation.TheVariants.{SubK, SubX, MulK, MulX, DivK, DivX, OrK}
use Rattle.bpf_code.specs.declared.operation.Operation.TheVariants.{OrX, AndK, AndX, XorK, XorX, ShiftLeft}
use Rattle.bpf_code.specs.declared.operation.Operation.TheVariants.{ShiftRight, Negate, JumpEqualK}
use Rattle.bpf_code.specs.declared.operation.Operation.TheVariants.{JumpEqualX, JumpGreaterK, JumpGreaterX}
use Rattle.bpf_code.specs.declared.operation.Operation.TheVariants.{JumpGreaterOrEqualK, JumpGreaterOrEqualX}
use Rattle.bpf_code.specs.declared.operation.Operation.TheVariants.{JumpAnyBitK, JumpAnyBitX, Jump, ReturnK}
use Rattle.bpf_code.specs.declared.operation.Operation.TheVariants.{ReturnA, MoveToX, MoveToA}
use Rattle.bpf_code.specs.declared.limits.TheConstants.{DATA_LEN, SCRATCH_WORDS}
use Rattle.call_data.specs.declared.sys_call.SysCall.{SysCall}
use Rattle.call_data.specs.CallData.{word_at}

-- where the machine is, its registers, and the scratch words that were stored so far
pub record State : Type 0 where
  pub place : ℕ
  pub a : ℕ
  pub x : ℕ
  pub words : ℕ → Option ℕ

-- what a step leads to: another state, or the filter's value
pub data Next : Type 0 where
  Goes : State → Next
  Ends : ℕ → Next

abbrev pub start : State
start = record { place = 0; a = 0; x = 0; words = λ word. None }

-- on to the next instruction, with this in A, with this in X, with this in a word
abbrev pub sets_a : State → ℕ → Next
sets_a s value = Goes (record { place = s.place + 1; a = value; x = s.x; words = s.words })

abbrev pub sets_x : State → ℕ → Next
sets_x s value = Goes (record { place = s.place + 1; a = s.a; x = value; words = s.words })

abbrev pub sets_word : State → ℕ → ℕ → Next
sets_word s word value =
    Goes (record {
      place = s.place + 1;
      a = s.a;
      x = s.x;
      words = λ w. if w == word then Some value
          else s.words w;
    })

-- on past this many instructions
abbrev pub skips : State → ℕ → Next
skips s count = Goes (record { place = s.place + 1 + count; a = s.a; x = s.x; words = s.words })

abbrev pub branches : Bool → Insn → State → Next
branches test insn s = skips s (if test then insn.jt else insn.jf)

-- arithmetic is modulo 2^32
abbrev pub sum_of : ℕ → ℕ → ℕ
sum_of a b = (a + b) % 2 ^ 32

abbrev pub difference_of : ℕ → ℕ → ℕ
difference_of a b = (a + 2 ^ 32 - b) % 2 ^ 32

abbrev pub product_of : ℕ → ℕ → ℕ
product_of a b = a * b % 2 ^ 32

-- the word exists, was stored, and has this value
pub record Holds (s : State) (word value : ℕ) : Type 0 where
  pub exists : word < SCRATCH_WORDS
  pub stored : s.words word ≡ Some value

-- what each operation does
abbrev pub Executes : Operation → SysCall → Insn → State → Next → Type 0
Executes LoadImmediate call insn s next = next ≡ sets_a s insn.k
Executes LoadData call insn s next = (insn.k < DATA_LEN) × (insn.k % 4 ≡ 0)
    × (next ≡ sets_a s (word_at call insn.k))
Executes LoadWord call insn s next = (value : ℕ) × Holds s insn.k value × (next ≡ sets_a s value)
Executes LoadLength call insn s next = next ≡ sets_a s DATA_LEN
Executes LoadXImmediate call insn s next = next ≡ sets_x s insn.k
Executes LoadXWord call insn s next = (value : ℕ) × Holds s insn.k value × (next ≡ sets_x s value)
Executes LoadXLength call insn s next = next ≡ sets_x s DATA_LEN
Executes Store call insn s next = (insn.k < SCRATCH_WORDS) × (next ≡ sets_word s insn.k s.a)
Executes StoreX call insn s next = (insn.k < SCRATCH_WORDS) × (next ≡ sets_word s insn.k s.x)
Executes AddK call insn s next = next ≡ sets_a s (sum_of s.a insn.k)
Executes AddX call insn s next = next ≡ sets_a s (sum_of s.a s.x)
Executes SubK call insn s next = next ≡ sets_a s (difference_of s.a insn.k)
Executes SubX call insn s next = next ≡ sets_a s (difference_of s.a s.x)
Executes MulK call insn s next = next ≡ sets_a s (product_of s.a insn.k)
Executes MulX call insn s next = next ≡ sets_a s (product_of s.a s.x)
Executes DivK call insn s next = (0 < insn.k) × (next ≡ sets_a s (s.a / insn.k))
Executes DivX call insn s next = next ≡ (if s.x == 0 then Ends 0 else sets_a s (s.a / s.x))
Executes OrK call insn s next = next ≡ sets_a s (bit_or s.a insn.k)
Executes OrX call insn s next = next ≡ sets_a s (bit_or s.a s.x)
Executes AndK call insn s next = next ≡ sets_a s (bit_and s.a insn.k)
Executes AndX call insn s next = next ≡ sets_a s (bit_and s.a s.x)
Executes XorK call insn s next = next ≡ sets_a s (bit_xor s.a insn.k)
Executes XorX call insn s next = next ≡ sets_a s (bit_xor s.a s.x)
Executes ShiftLeft call insn s next = (insn.k < 32) × (next ≡ sets_a s (product_of s.a (2 ^ insn.k)))
Executes ShiftRight call insn s next = (insn.k < 32) × (next ≡ sets_a s (s.a / 2 ^ insn.k))
Executes Negate call insn s next = next ≡ sets_a s (difference_of 0 s.a)
Executes JumpEqualK call insn s next = next ≡ branches (s.a == insn.k) insn s
Executes JumpEqualX call insn s next = next ≡ branches (s.a == s.x) insn s
Executes JumpGreaterK call insn s next = next ≡ branches (nat_lt insn.k s.a) insn s
Executes JumpGreaterX call insn s next = next ≡ branches (nat_lt s.x s.a) insn s
Executes JumpGreaterOrEqualK call insn s next = next ≡ branches (nat_le insn.k s.a) insn s
Executes JumpGreaterOrEqualX call insn s next = next ≡ branches (nat_le s.x s.a) insn s
Executes JumpAnyBitK call insn s next = next ≡ branches (not (bit_and s.a insn.k == 0)) insn s
Executes JumpAnyBitX call insn s next = next ≡ branches (not (bit_and s.a s.x == 0)) insn s
Executes Jump call insn s next = next ≡ skips s insn.k
Executes ReturnK call insn s next = next ≡ Ends insn.k
Executes ReturnA call insn s next = next ≡ Ends s.a
Executes MoveToX call insn s next = next ≡ sets_x s s.a
Executes MoveToA call insn s next = next ≡ sets_a s s.x

-- a step of the code: the instruction at the state's place is executed
pub record Step (call : SysCall) (code : List Insn) (s : State) (next : Next) : Type 0 where
  pub insn : Insn
  pub stands : slice_get code s.place ≡ Some insn
  pub executes : Executes insn.op call insn s next
