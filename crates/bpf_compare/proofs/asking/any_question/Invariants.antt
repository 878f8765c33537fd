use Rattle.std.proofs.Common.{◌≡◌, ◌<◌, ◌-◌, ◌^◌, ℕ, slice_index_or}
use Rattle.bpf_compare.specs.declared.range.Range.{Range}
use Rattle.bpf_compare.proofs.asking.any_question.Given as goal

abbrev pub invariant-loop-place : goal.invariant-loop-place
invariant-loop-place l = (place : ℕ) (range : Range) → place < l.place
    → (slice_index_or l.known.ranges place range).mask ≡ 2 ^ 32 - 1
