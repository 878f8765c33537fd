use Rattle.std.proofs.Common.{length}
use Rattle.node_watch.proofs.wait_texts.+add_containers.Given as goal

abbrev pub decreases-add_containers : goal.decreases-add_containers
decreases-add_containers l = length l.new.now
