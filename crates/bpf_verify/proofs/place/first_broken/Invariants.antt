use Rattle.std.proofs.Common.{◌≡◌, ◌<◌, ℕ, Some, length, slice_get}
use Rattle.bpf_code.specs.declared.insn.Insn.{Insn}
use Rattle.bpf_verify.specs.Sound.{KeepsRules}
use Rattle.bpf_verify.proofs.place.first_broken.Given as goal

abbrev pub invariant-loop-at : goal.invariant-loop-at
invariant-loop-at l =
    (earlier : ℕ) (other : Insn) → earlier < l.at → slice_get l.code earlier ≡ Some other
    → KeepsRules (length l.code) earlier other
