-- Instructions of classic BPF and their bytes: struct sock_filter of linux/filter.h, its codes as
-- linux/bpf_common.h composes them. The table has the instructions that seccomp(2) takes, except those that
-- docs/SEMANTICS.md, "Instructions", leaves out.
use Rattle.std.specs.Prelude.{◌≡◌, ℕ, ◌<◌, ◌^◌, List, [], ◌∷◌, ◌++◌}
use Rattle.std.specs.Int.{w16, w32, to_le_bytes}
use Rattle.bpf_code.specs.declared.operation.Operation.{Operation}
use Rattle.bpf_code.specs.declared.operation.Operation.TheVariants.{LoadImmediate, LoadData, LoadWord}
use Rattle.bpf_code.specs.declared.operation.Operation.TheVariants.{LoadLength, LoadXImmediate, LoadXWord}
use Rattle.bpf_code.specs.declared.operation.Operation.TheVariants.{LoadXLength, Store, StoreX, AddK, AddX}
use Rattle.bpf_code.specs.declared.operation.Operation.TheVariants.{SubK, SubX, MulK, MulX, DivK, DivX, OrK}
use Rattle.bpf_code.specs.declared.operation.Operation.TheVariants.{OrX, AndK, AndX, XorK, XorX, ShiftLeft}
use Rattle.bpf_code.specs.declared.operation.Operation.TheVariants.{ShiftRight, Negate, JumpEqualK}
use Rattle.bpf_code.specs.declared.operation.Operation.TheVariants.{JumpEqualX, JumpGreaterK, JumpGreaterX}
use Rattle.bpf_code.specs.declared.operation.Operation.TheVariants.{JumpGreaterOrEqualK, JumpGreaterOrEqualX}
use Rattle.bpf_code.specs.declared.operation.Operation.TheVariants.{JumpAnyBitK, JumpAnyBitX, Jump, ReturnK}
use Rattle.bpf_code.specs.declared.operation.Operation.TheVariants.{ReturnA, MoveToX, MoveToA}
use Rattle.bpf_code.specs.declared.insn.Insn.{Insn}

-- the code of an operation
abbrev pub code_of : Operation → ℕ
code_of LoadImmediate = 0x00
code_of LoadData = 0x20
code_of LoadWord = 0x60
code_of LoadLength = 0x80
code_of LoadXImmediate = 0x01
code_of LoadXWord = 0x61
code_of LoadXLength = 0x81
code_of Store = 0x02
code_of StoreX = 0x03
code_of AddK = 0x04
code_of AddX = 0x0c
code_of SubK = 0x14
code_of SubX = 0x1c
code_of MulK = 0x24
code_of MulX = 0x2c
code_of DivK = 0x34
code_of DivX = 0x3c
code_of OrK = 0x44
code_of OrX = 0x4c
code_of AndK = 0x54
code_of AndX = 0x5c
code_of XorK = 0xa4
code_of XorX = 0xac
code_of ShiftLeft = 0x64
code_of ShiftRight = 0x74
code_of Negate = 0x84
code_of JumpEqualK = 0x15
code_of JumpEqualX = 0x1d
code_of JumpGreaterK = 0x25
code_of JumpGreaterX = 0x2d
code_of JumpGreaterOrEqualK = 0x35
code_of JumpGreaterOrEqualX = 0x3d
code_of JumpAnyBitK = 0x45
code_of JumpAnyBitX = 0x4d
code_of Jump = 0x05
code_of ReturnK = 0x06
code_of ReturnA = 0x16
code_of MoveToX = 0x07
code_of MoveToA = 0x87

-- the instruction's four numbers
abbrev pub Spells : Insn → ℕ → ℕ → ℕ → ℕ → Type 0
Spells insn code jt jf k = (code_of insn.op ≡ code) × (insn.jt ≡ jt) × (insn.jf ≡ jf) × (insn.k ≡ k)

-- its eight bytes, all numbers little-endian
abbrev pub bytes_of_insn : Insn → List ℕ
bytes_of_insn insn = to_le_bytes w16 (code_of insn.op) ++ insn.jt ∷ insn.jf ∷ to_le_bytes w32 insn.k

-- the bytes of a filter file: its instructions, one after the other
abbrev pub bytes_of_code : List Insn → List ℕ
bytes_of_code [] = []
bytes_of_code (insn ∷ code) = bytes_of_insn insn ++ bytes_of_code code

-- the instruction's numbers fit their fields
pub record Fits (insn : Insn) : Type 0 where
  pub jt : insn.jt < 2 ^ 8
  pub jf : insn.jf < 2 ^ 8
  pub k : insn.k < 2 ^ 32
