-- In each part the coordinator has all parts of the count, and there are fewer peers than these.
use Rattle.std.proofs.Common.{◌≡◌, ◌<◌, vec_len}
use Rattle.node_lock.specs.declared.limits.TheConstants.{PARTS}
use Rattle.worker_crew.proofs.crews.crew.Given as goal

abbrev pub invariant-loop : goal.invariant-loop
invariant-loop g l = (l.crew.coordinator.parts ≡ PARTS) × (vec_len l.crew.peers < PARTS)
