use Rattle.compile.proofs.Common.{◌≡◌, ℕ, length, SysCall, first_value}
use Rattle.compile.proofs.apart.order.Given as goal

abbrev pub invariant-loop-at : goal.invariant-loop-at
invariant-loop-at l = ((call : SysCall) (other : ℕ) → first_value l.rules other call
    ≡ first_value l.fn.rules other call) × (length l.rules ≡ length l.fn.rules)
