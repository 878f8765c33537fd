use Rattle.script.proofs.Rows.{rows_more}
use Rattle.script.proofs.install.insns.Goals as goal

pub loop-item-preserved : goal.loop-item-preserved
loop-item-preserved c =
    rw c.in_ok-push.ensures.items
    (rows_more c.args.items.now c.loop-item.item-index _ c.loop-item.insns.items c.in-Some.insn
    c.loop-item-test.true c.item-item.is c.loop-item.invariant c.in-Some.ensures.found)
