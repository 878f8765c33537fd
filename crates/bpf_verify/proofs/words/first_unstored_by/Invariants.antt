use Rattle.std.proofs.Common.{◌≡◌, ◌<◌, ℕ, Some, slice_get}
use Rattle.bpf_code.specs.declared.insn.Insn.{Insn}
use Rattle.bpf_verify.specs.Sound.{FindsWord}
use Rattle.bpf_verify.proofs.Stored.{Tells}
use Rattle.bpf_verify.proofs.words.first_unstored_by.Given as goal

abbrev pub invariant-loop-at : goal.invariant-loop-at
invariant-loop-at l = record {
  told : Tells l.code l.at l.masks;
  found : (earlier : ℕ) (other : Insn) → earlier < l.at → slice_get l.code earlier ≡ Some other
      → FindsWord l.code earlier other;
}
