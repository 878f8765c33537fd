use Rattle.compile.proofs.Common.{◌<◌, length, IfSome}
use Rattle.compile.proofs.apart.boundary.Given as goal

abbrev pub invariant-loop-at : goal.invariant-loop-at
invariant-loop-at l = IfSome l.found (λ at. (0 < at) × (at < length l.rules))
