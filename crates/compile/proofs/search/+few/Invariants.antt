use Rattle.compile.proofs.Common.{length}
use Rattle.compile.proofs.search.+few.Given as goal

abbrev pub decreases-few : goal.decreases-few
decreases-few l = length l.points.now
