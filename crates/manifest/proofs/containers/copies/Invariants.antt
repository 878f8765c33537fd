-- The containers so far are copied.
use Rattle.std.proofs.Common.{◌≡◌, take}
use Rattle.manifest.proofs.containers.copies.Given as goal

abbrev pub invariant-loop-container : goal.invariant-loop-container
invariant-loop-container l = l.copies.items ≡ take l.container-index l.containers
