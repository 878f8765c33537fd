use Rattle.std.proofs.Common.{subst}
use Rattle.json_tree.specs.Reading.{Gives}
use Rattle.cri_msgs.specs.declared.faults.MessageFault.TheVariants.{Memory}
use Rattle.cri_msgs.proofs.ReadReply.{found, only}
use Rattle.cri_msgs.proofs.replies.Reply.read.Goals as goal

pub returns-clause-found : goal.returns-clause-found
returns-clause-found c = found c.args.version c.args.bytes.now c.reading.result c.reading.ensures

pub returns-clause-only : goal.returns-clause-only
returns-clause-only c = λ reply is. subst (Gives Memory (λ x. x) c.reading.result)
    (only c.args.version c.args.bytes.now reply is) c.reading.ensures
