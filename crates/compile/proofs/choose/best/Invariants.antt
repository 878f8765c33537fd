use Rattle.compile.proofs.Common.{◌≡◌, ◌<◌, ◌⊎◌, length}
use Rattle.compile.proofs.choose.best.Given as goal

abbrev pub invariant-loop-at : goal.invariant-loop-at
invariant-loop-at l = (l.best ≡ 0) ⊎ (l.best < length l.rules)
