use Rattle.compile.proofs.Common.{length}
use Rattle.compile.proofs.search.+search.Given as goal

abbrev pub decreases-search : goal.decreases-search
decreases-search l = length l.points.now
