use Rattle.std.proofs.Common.{arith}
use Rattle.cri_msgs.proofs.Exits.{silent_all}
use Rattle.cri_msgs.proofs.tells.exit_listed.Goals as goal

pub returns-clause-silent : goal.returns-clause-silent
returns-clause-silent c = silent_all c.args.container.now c.args.list.now c.loop-listed.listed-index
    (omega (arith, c.loop-listed-test.false)) c.loop-listed.invariant
