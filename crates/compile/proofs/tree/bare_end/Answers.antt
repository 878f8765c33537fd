use Rattle.compile.proofs.Common.{refl}
use Rattle.compile.proofs.Leaves.{decided_at}
use Rattle.compile.proofs.Settling.{settled_more, none_more}
use Rattle.compile.proofs.tree.bare_end.Goals as goal

pub returns-then-decides-clause-same : goal.returns-then-decides-clause-same
returns-then-decides-clause-same c = λ call.
    let yes = c.if-decides.ensures.yes refl in
    decided_at c.args.entries.now c.args.default c.args.nr c.loop-at.at call c.index-entries-at.result
    c.loop-at-test.true c.index-entries-at.is yes.0 yes.1

pub loop-at-preserved : goal.loop-at-preserved
loop-at-preserved c = (
  settled_more c.args.entries.now c.args.nr c.loop-at.at c.index-entries-at.result
      c.loop-at-test.true c.index-entries-at.is c.if-decides.ensures.no c.loop-at.invariant.0,
  none_more c.args.entries.now c.args.nr c.loop-at.at c.index-entries-at.result
      c.loop-at-test.true c.index-entries-at.is c.if-decides.ensures.no c.loop-at.invariant.1,
)
