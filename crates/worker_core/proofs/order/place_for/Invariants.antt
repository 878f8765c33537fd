use Rattle.std.proofs.Common.{◌≡◌, ◌≤◌, ◌-◌, ◌++◌, drop, length, take}
use Rattle.worker_core.specs.Order.{put}
use Rattle.worker_core.proofs.order.place_for.Given as goal

abbrev pub invariant-loop-at : goal.invariant-loop-at
invariant-loop-at l = (l.at ≤ length l.order)
    × (take l.at l.order ++ put l.due (drop l.at l.order) ≡ put l.due l.order)

abbrev pub decreases-loop-at : goal.decreases-loop-at
decreases-loop-at l = length l.order - l.at
