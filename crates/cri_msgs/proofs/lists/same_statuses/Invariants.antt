-- The entries so far are the same, and there are as many of both.
use Rattle.std.proofs.Common.{◌≡◌, length, take}
use Rattle.cri_msgs.proofs.lists.same_statuses.Given as goal

abbrev pub invariant-loop-place : goal.invariant-loop-place
invariant-loop-place l = (take l.place l.list ≡ take l.place l.others) × (length l.list ≡ length l.others)
