use Rattle.compile.proofs.Common.{length}
use Rattle.compile.proofs.tree.+parts.Given as goal

abbrev pub decreases-parts : goal.decreases-parts
decreases-parts l = length l.rules.now
