-- The operand text after an instruction's mnemonic, as bpf_asm takes it. Constants are hexadecimal.
use Rattle.std.specs.Prelude.{ℕ, List, [], ◌++◌, codes, false}
use Rattle.std.specs.Fmt.{decimal, digits}
use Rattle.bpf_code.specs.declared.display.Operand.{Operand}
use Rattle.bpf_code.specs.declared.display.Operand.TheVariants.{Constant, Data, Word, Length, X, A, Skip}
use Rattle.bpf_code.specs.declared.display.Operand.TheVariants.{Nothing}
use Rattle.bpf_code.specs.declared.display.Targets.{Targets}
use Rattle.bpf_code.specs.declared.display.Targets.TheVariants as targets
use Rattle.bpf_code.specs.declared.display.Targets.TheVariants.{Two}

abbrev pub operand_text : Operand → List ℕ
operand_text (Constant k) = codes " #0x" ++ digits 16 false k
operand_text (Data k) = codes " [" ++ decimal k ++ codes "]"
operand_text (Word k) = codes " M[" ++ decimal k ++ codes "]"
operand_text Length = codes " #len"
operand_text X = codes " x"
operand_text A = codes " a"
operand_text (Skip k) = codes " " ++ decimal k
operand_text Nothing = []

abbrev pub targets_text : Targets → List ℕ
targets_text (Two jt jf) = codes ", " ++ decimal jt ++ codes ", " ++ decimal jf
targets_text targets.Nothing = []
