use Rattle.std.proofs.Common.{length}
use Rattle.node_watch.proofs.counts.+add_listed.Given as goal

abbrev pub decreases-add_listed : goal.decreases-add_listed
decreases-add_listed l = length l.listed.now
