-- The pod is the one in the slot of the call's uid.
use Rattle.std.proofs.Common.{IfOk, subst}
use Rattle.std.specs.String.{string_bytes}
use Rattle.worker_core.specs.Slots.{slot_of}
use Rattle.worker_crew.specs.Observed.{IsChange}
use Rattle.worker_crew.proofs.Changed.{changed_there, made_so}
use Rattle.worker_crew.proofs.observer.Observer.change_of.Goals as goal

pub returns-in-Some : goal.returns-in-Some
returns-in-Some c = subst
    (λ uid. IfOk c.changes_since.result (λ line. IsChange c.args.form c.args.moment c.args.self.now.counts uid
    (slot_of uid c.args.node.now.slots) c.args.before.now.seen (string_bytes line)))
    c.uid_of-uid.ensures
    (subst
    (λ was. IfOk c.changes_since.result (λ line. IsChange c.args.form c.args.moment c.args.self.now.counts c.uid_of-uid.result.now
    (slot_of c.uid_of-uid.result.now c.args.node.now.slots) was (string_bytes line)))
    c.as_ref.ensures.value
    (made_so c.changes_since.result (λ line is. changed_there c.args.form c.args.moment c.args.self.now.counts
    c.uid_of-uid.result.now (slot_of c.uid_of-uid.result.now c.args.node.now.slots) _ _ _ _ (string_bytes line)
    c.in-Some.ensures.pod c.in-Some.ensures.tracks c.in-Some.ensures.phase is) c.changes_since.ensures))
