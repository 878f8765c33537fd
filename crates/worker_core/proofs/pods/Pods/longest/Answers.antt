use Rattle.std.proofs.Common.{◌∙◌, ap}
use Rattle.worker_core.specs.Order.{order_of}
use Rattle.worker_core.proofs.Firsts.{first_turn_is}
use Rattle.worker_core.proofs.pods.Pods.longest.Goals as goal

pub returns : goal.returns
returns c = c.first_turn.ensures ∙ first_turn_is c.args.now c.args.self.now c.as_slice.result.now
    (c.as_slice.ensures.value ∙ c.self.invariant.order ∙ ap order_of c.self.view_is)
