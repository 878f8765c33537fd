use Rattle.filter_differences.proofs.Orders.{one_more}
use Rattle.filter_differences.proofs.by_part.add.Goals as goal

pub returns-in_ok-push-clause-in_order : goal.returns-in_ok-push-clause-in_order
returns-in_ok-push-clause-in_order g c =
    one_more _ _ _ c.in_ok-push.ensures.items c.requires.in_order c.requires.below
