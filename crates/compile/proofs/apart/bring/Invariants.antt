use Rattle.compile.proofs.Common.{◌≡◌, ◌<◌, ℕ, length, SysCall, first_value}
use Rattle.compile.proofs.apart.bring.Given as goal

abbrev pub invariant-loop-at : goal.invariant-loop-at
invariant-loop-at l = ((call : SysCall) (other : ℕ) → first_value l.rules other call
    ≡ first_value l.fn.rules other call) × (length l.rules ≡ length l.fn.rules) × (l.at < length l.rules)

abbrev pub decreases-loop-at : goal.decreases-loop-at
decreases-loop-at l = l.at
