use Rattle.std.proofs.Common.{rules}
use Rattle.std.proofs.lemmas.Fn.{filter_same}
use Rattle.worker_core.proofs.order.take_out.Goals as goal

pub returns-clause-order : goal.returns-clause-order
returns-clause-order c = filter_same _ _ _ (λ x b f' k. search rules) _ _ c.retain.ensures.filtered
