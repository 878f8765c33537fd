use Rattle.compile.proofs.Gathering.{PointsSoFar}
use Rattle.compile.proofs.search.points_for.Given as goal

abbrev pub invariant-loop-entry : goal.invariant-loop-entry
invariant-loop-entry l = PointsSoFar l.entries l.nr l.index l.points.items l.count l.entry-index
