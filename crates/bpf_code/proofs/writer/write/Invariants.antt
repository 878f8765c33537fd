use Rattle.std.proofs.Common.{◌≡◌, take}
use Rattle.std.specs.List.{AllByRecursion}
use Rattle.bpf_code.specs.Code.{Fits, bytes_of_code}
use Rattle.bpf_code.proofs.writer.write.Given as goal

abbrev pub invariant-loop-insn : goal.invariant-loop-insn
invariant-loop-insn l = record {
  text : l.bytes.items ≡ bytes_of_code (take l.insn-index l.insns);
  fits : AllByRecursion Fits (take l.insn-index l.insns);
}
