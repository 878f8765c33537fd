use Rattle.compile.proofs.Common.{◌<◌, All, take}
use Rattle.compile.proofs.search.place_for.Given as goal

abbrev pub invariant-loop-at : goal.invariant-loop-at
invariant-loop-at l = All (λ point. point.number < l.number) (take l.at l.points)
