use Rattle.std.proofs.Common.{length}
use Rattle.node_watch.proofs.seen.+add_containers.Given as goal

abbrev pub decreases-add_containers : goal.decreases-add_containers
decreases-add_containers l = length l.containers.now
