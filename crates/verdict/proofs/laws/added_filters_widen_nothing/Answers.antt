use Rattle.std.proofs.Common.{arith}
use Rattle.verdict.proofs.Wider.{none_milder}
use Rattle.verdict.proofs.laws.added_filters_widen_nothing.Goals as goal

pub returns-clause-rank : goal.returns-clause-rank
returns-clause-rank c = none_milder c.runs_are_determined.ensures.value c.ranks_are_an_order.ensures.below

pub returns-clause-performs : goal.returns-clause-performs
returns-clause-performs c = λ stack added call alone together judged also performs.
    let order = c.ranks_are_an_order.ensures.performing_last in
    (order alone.action).1 (omega (
      arith,
      (order together.action).0 performs,
      none_milder c.runs_are_determined.ensures.value c.ranks_are_an_order.ensures.below stack added call
          alone together judged also,
    ))
