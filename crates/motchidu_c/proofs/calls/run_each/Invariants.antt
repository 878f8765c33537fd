use Rattle.std.proofs.Common.{ℕ, ◌<◌, slice_index}
use Rattle.motchidu_c.specs.Judged.{IsJudged, bytes_at}
use Rattle.motchidu_c.proofs.calls.run_each.Given as goal

abbrev pub invariant-loop-at : goal.invariant-loop-at
invariant-loop-at l =
    (k : ℕ) → k < l.at → IsJudged l.filter (bytes_at l.calls k) (slice_index l.values k)
    (slice_index l.steps k)
