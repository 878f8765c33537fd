use Rattle.std.proofs.Common.{ℕ, ◌<◌}
use Rattle.bpf_code.specs.Reading.{IsKnownAt}
use Rattle.bpf_code.proofs.reader.first_unknown.Given as goal

abbrev pub invariant-loop-at : goal.invariant-loop-at
invariant-loop-at l = (earlier : ℕ) → earlier < l.at → IsKnownAt l.bytes earlier
