use Rattle.std.proofs.Common.{length}
use Rattle.node_watch.proofs.waits.+add_waits.Given as goal

abbrev pub decreases-add_waits : goal.decreases-add_waits
decreases-add_waits l = length l.containers.now
