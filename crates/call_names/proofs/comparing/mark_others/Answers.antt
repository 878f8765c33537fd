use Rattle.call_names.proofs.Marking.{knows_after}
use Rattle.call_names.proofs.comparing.mark_others.Goals as goal

pub loop-at-preserved : goal.loop-at-preserved
loop-at-preserved c = knows_after c.args.code.now c.loop-at.others c.pass.new.others c.loop-at.at _
    c.loop-at-test.true c.pass.ensures c.loop-at.invariant
