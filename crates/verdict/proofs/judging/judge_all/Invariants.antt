use Rattle.std.proofs.Common.{take}
use Rattle.verdict.specs.Stack.{IsJudged}
use Rattle.verdict.proofs.judging.judge_all.Given as goal

abbrev pub invariant-loop-filter : goal.invariant-loop-filter
invariant-loop-filter l = IsJudged (take l.filter-index l.filters) l.call l.best
