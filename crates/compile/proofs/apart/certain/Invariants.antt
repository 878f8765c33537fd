-- If the rules that are still to come return the value, all of them do.
use Rattle.compile.proofs.Common.{◌≡◌, ℕ, drop, SysCall, first_value}
use Rattle.compile.proofs.apart.certain.Given as goal

abbrev pub invariant-loop-rule : goal.invariant-loop-rule
invariant-loop-rule l = (call : SysCall) (other : ℕ)
    → first_value (drop l.rule-index l.rules) other call ≡ l.value
    → first_value l.rules other call ≡ l.value
