use Rattle.std.proofs.Common.{◌≡◌, ◌++◌, map, take, drop}
use Rattle.worker_core.specs.Order.{closed_up, without}
use Rattle.worker_core.proofs.order.close.Given as goal

-- those before this one have moved up
abbrev pub invariant-loop-due : goal.invariant-loop-due
invariant-loop-due l = l.due-items
    ≡ map (closed_up l.gone) (take l.due-index (without l.gone l.fn.order.items))
    ++ drop l.due-index (without l.gone l.fn.order.items)
