use Rattle.compile.proofs.Common.{◌-◌, length}
use Rattle.compile.proofs.plain.+test_clauses.Given as goal

abbrev pub decreases-test_clauses : goal.decreases-test_clauses
decreases-test_clauses l = length l.clauses.now - l.from
