-- The pod is the one in the slot of the call's uid.
use Rattle.std.proofs.Common.{IfOk, subst}
use Rattle.std.specs.String.{string_bytes}
use Rattle.worker_core.specs.Slots.{slot_of}
use Rattle.worker_crew.specs.Observed.{IsWaitChange}
use Rattle.worker_crew.proofs.Changed.{made_so, waits_there}
use Rattle.worker_crew.proofs.observer.Observer.wait_change_of.Goals as goal

pub returns-in-Some : goal.returns-in-Some
returns-in-Some c = subst
    (λ uid. IfOk c.waits_since.result (λ line. IsWaitChange c.args.form c.args.moment c.args.self.now.reasons
    (slot_of uid c.args.node.now.slots) c.args.before.now.waits (string_bytes line)))
    c.uid_of-uid.ensures
    (subst
    (λ was. IfOk c.waits_since.result (λ line. IsWaitChange c.args.form c.args.moment c.args.self.now.reasons
    (slot_of c.uid_of-uid.result.now c.args.node.now.slots) was (string_bytes line)))
    c.as_ref.ensures.value
    (made_so c.waits_since.result (λ line is. waits_there c.args.form c.args.moment c.args.self.now.reasons
    (slot_of c.uid_of-uid.result.now c.args.node.now.slots) _ _ _ (string_bytes line)
    c.in-Some.ensures.pod c.in-Some.ensures.tracks is) c.waits_since.ensures))
