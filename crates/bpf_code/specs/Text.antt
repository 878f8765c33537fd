-- Assembler text of an instruction: the syntax of the kernel's bpf_asm, Documentation/networking/filter, with
-- the numbers of skipped instructions instead of labels.
use Rattle.std.specs.Prelude.{ℕ, List, ◌++◌, codes}
use Rattle.bpf_code.specs.declared.operation.Operation.{Operation}
use Rattle.bpf_code.specs.declared.operation.Operation.TheVariants.{LoadImmediate, LoadData, LoadWord}
use Rattle.bpf_code.specs.declared.operation.Operation.TheVariants.{LoadLength, LoadXImmediate, LoadXWord}
use Rattle.bpf_code.specs.declared.operation.Operation.TheVariants.{LoadXLength, Store, StoreX, AddK, AddX}
use Rattle.bpf_code.specs.declared.operation.Operation.TheVariants.{SubK, SubX, MulK, MulX, DivK, DivX, OrK}
use Rattle.bpf_code.specs.declared.operation.Operation.TheVariants.{OrX, AndK, AndX, XorK, XorX, ShiftLeft}
use Rattle.bpf_code.specs.declared.operation.Operation.TheVariants.{ShiftRight, Negate, JumpEqualK}
use Rattle.bpf_code.specs.declared.operation.Operation.TheVariants.{JumpEqualX, JumpGreaterK, JumpGreaterX}
use Rattle.bpf_code.specs.declared.operation.Operation.TheVariants.{JumpGreaterOrEqualK, JumpGreaterOrEqualX}
use Rattle.bpf_code.specs.declared.operation.Operation.TheVariants.{JumpAnyBitK, JumpAnyBitX, Jump, ReturnK}
use Rattle.bpf_code.specs.declared.operation.Operation.TheVariants.{ReturnA, MoveToX, MoveToA}
use Rattle.bpf_code.specs.declared.insn.Insn.{Insn}
use Rattle.bpf_code.specs.declared.flow.Flow.{Flow}
use Rattle.bpf_code.specs.declared.flow.Flow.TheVariants.{Branches}
use Rattle.bpf_code.specs.declared.display.Operand.{Operand}
use Rattle.bpf_code.specs.declared.display.Operand.TheVariants.{Constant, Data, Word, Length, X, A, Skip}
use Rattle.bpf_code.specs.declared.display.Operand.TheVariants.{Nothing}
use Rattle.bpf_code.specs.declared.display.Targets.{Targets}
use Rattle.bpf_code.specs.declared.display.Targets.TheVariants as targets
use Rattle.bpf_code.specs.declared.display.Targets.TheVariants.{Two}
use Rattle.bpf_code.specs.Flow.{flow_of}
use Rattle.bpf_code.specs.OperandText.{operand_text, targets_text}

abbrev pub mnemonic_of : Operation → List ℕ
mnemonic_of LoadImmediate = codes "ld"
mnemonic_of LoadData = codes "ld"
mnemonic_of LoadWord = codes "ld"
mnemonic_of LoadLength = codes "ld"
mnemonic_of LoadXImmediate = codes "ldx"
mnemonic_of LoadXWord = codes "ldx"
mnemonic_of LoadXLength = codes "ldx"
mnemonic_of Store = codes "st"
mnemonic_of StoreX = codes "stx"
mnemonic_of AddK = codes "add"
mnemonic_of AddX = codes "add"
mnemonic_of SubK = codes "sub"
mnemonic_of SubX = codes "sub"
mnemonic_of MulK = codes "mul"
mnemonic_of MulX = codes "mul"
mnemonic_of DivK = codes "div"
mnemonic_of DivX = codes "div"
mnemonic_of OrK = codes "or"
mnemonic_of OrX = codes "or"
mnemonic_of AndK = codes "and"
mnemonic_of AndX = codes "and"
mnemonic_of XorK = codes "xor"
mnemonic_of XorX = codes "xor"
mnemonic_of ShiftLeft = codes "lsh"
mnemonic_of ShiftRight = codes "rsh"
mnemonic_of Negate = codes "neg"
mnemonic_of JumpEqualK = codes "jeq"
mnemonic_of JumpEqualX = codes "jeq"
mnemonic_of JumpGreaterK = codes "jgt"
mnemonic_of JumpGreaterX = codes "jgt"
mnemonic_of JumpGreaterOrEqualK = codes "jge"
mnemonic_of JumpGreaterOrEqualX = codes "jge"
mnemonic_of JumpAnyBitK = codes "jset"
mnemonic_of JumpAnyBitX = codes "jset"
mnemonic_of Jump = codes "ja"
mnemonic_of ReturnK = codes "ret"
mnemonic_of ReturnA = codes "ret"
mnemonic_of MoveToX = codes "tax"
mnemonic_of MoveToA = codes "txa"

-- the operand after the mnemonic
abbrev pub operand_of : Operation → ℕ → Operand
operand_of LoadData k = Data k
operand_of LoadWord k = Word k
operand_of LoadXWord k = Word k
operand_of Store k = Word k
operand_of StoreX k = Word k
operand_of LoadLength k = Length
operand_of LoadXLength k = Length
operand_of AddX k = X
operand_of SubX k = X
operand_of MulX k = X
operand_of DivX k = X
operand_of OrX k = X
operand_of AndX k = X
operand_of XorX k = X
operand_of JumpEqualX k = X
operand_of JumpGreaterX k = X
operand_of JumpGreaterOrEqualX k = X
operand_of JumpAnyBitX k = X
operand_of ReturnA k = A
operand_of Jump k = Skip k
operand_of Negate k = Nothing
operand_of MoveToX k = Nothing
operand_of MoveToA k = Nothing
operand_of _ k = Constant k

-- what a conditional jump skips
abbrev pub targets_in : Flow → Insn → Targets
targets_in Branches insn = Two insn.jt insn.jf
targets_in _ insn = targets.Nothing

abbrev pub targets_of : Insn → Targets
targets_of insn = targets_in (flow_of insn.op) insn

abbrev pub text_of : Insn → List ℕ
text_of insn = mnemonic_of insn.op ++ operand_text (operand_of insn.op insn.k)
    ++ targets_text (targets_of insn)
