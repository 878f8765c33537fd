use Rattle.std.proofs.Common.{◌≡◌, None, drop}
use Rattle.worker_core.specs.Order.{first_turn}
use Rattle.worker_core.proofs.turns.first_turn.Given as goal

abbrev pub invariant-loop-due : goal.invariant-loop-due
invariant-loop-due l = first_turn l.now l.best (drop l.due-index l.order) ≡ first_turn l.now None l.order
