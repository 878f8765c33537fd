use Rattle.cri_msgs.specs.Calls.{uid_of}
use Rattle.worker_core.specs.Slots.{slot_of}
use Rattle.worker_crew.specs.Observed.{IsChange}
use Rattle.worker_crew.proofs.Changed.{adds_so, text_of}
use Rattle.worker_crew.proofs.observer.Observer.add_change.Goals as goal

pub returns : goal.returns
returns c =
    adds_so (text_of
    (IsChange c.args.form c.args.moment c.args.self.now.counts (uid_of c.args.before.now.call)
    (slot_of (uid_of c.args.before.now.call) c.args.node.now.slots) c.args.before.now.seen)
    c.change_of-line.result c.change_of-line.ensures) c.add.ensures
