-- The containers so far are the same, and there are as many of both.
use Rattle.std.proofs.Common.{◌≡◌, length, take}
use Rattle.manifest.proofs.containers.same_list.Given as goal

abbrev pub invariant-loop-place : goal.invariant-loop-place
invariant-loop-place l = (take l.place l.containers ≡ take l.place l.others)
    × (length l.containers ≡ length l.others)
