use Rattle.cri_msgs.specs.Calls.{uid_of}
use Rattle.worker_core.specs.Slots.{slot_of}
use Rattle.worker_crew.specs.Observed.{IsWaitChange}
use Rattle.worker_crew.proofs.Changed.{adds_so, text_of}
use Rattle.worker_crew.proofs.observer.Observer.add_wait_change.Goals as goal

pub returns : goal.returns
returns c =
    adds_so (text_of
    (IsWaitChange c.args.form c.args.moment c.args.self.now.reasons
    (slot_of (uid_of c.args.before.now.call) c.args.node.now.slots) c.args.before.now.waits)
    c.wait_change_of-line.result c.wait_change_of-line.ensures) c.add.ensures
