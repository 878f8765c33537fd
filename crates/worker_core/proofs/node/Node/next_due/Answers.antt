use Rattle.std.proofs.Common.{◌∙◌, ap}
use Rattle.worker_core.specs.Kept.{KeptNode}
use Rattle.worker_core.specs.Turns.{soonest}
use Rattle.worker_core.proofs.Soonest.{next_due}
use Rattle.worker_core.proofs.node.Node.next_due.Goals as goal

pub returns-clause-least : goal.returns-clause-least
returns-clause-least c = λ node s.
    next_due c.due_is_when_next_is.ensures c.args.self.now node s c.soonest.result
    (c.soonest.ensures
    ∙ ap (λ (k : KeptNode). soonest k.moment k.slots) c.self.view_is)
