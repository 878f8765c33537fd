use Rattle.call_names.proofs.Marking.{answered_next}
use Rattle.call_names.proofs.comparing.tests_by.Goals as goal

pub loop-at-preserved : goal.loop-at-preserved
loop-at-preserved c =
    answered_next c.args.code.now c.args.reached.now c.args.others.now c.loop-at.tests.items
    c.push.new.self.items c.loop-at.at _ c.is_test.result c.loop-at-test.true c.requires.room
    c.requires.reaches c.requires.known
    c.is_test.ensures c.in_ok-push.ensures.items c.loop-at.invariant
