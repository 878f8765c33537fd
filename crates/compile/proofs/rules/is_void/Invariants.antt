use Rattle.compile.proofs.Common.{take, All}
use Rattle.compile.specs.Rooms.{IsPossible}
use Rattle.compile.proofs.rules.is_void.Given as goal

abbrev pub invariant-loop-clause : goal.invariant-loop-clause
invariant-loop-clause l = All IsPossible (take l.clause-index l.clauses)
