use Rattle.std.proofs.Common.{◌<◌, List, length, subst, sym, arith}
use Rattle.worker_core.specs.declared.slots.Slot.{Slot}
use Rattle.worker_core.specs.Slots.{AllCounted, AllEndedBy}
use Rattle.worker_core.proofs.Closings.{order_closed}
use Rattle.worker_core.proofs.Counts.{counted_by_remove}
use Rattle.worker_core.proofs.Lists.{ended_by_remove}
use Rattle.worker_core.proofs.pods.Pods.leave.Goals as goal

pub invariant_of-self : goal.invariant_of-self
invariant_of-self c = record {
  order = order_closed c.self.inside.slots.items c.remove.new.self.items c.args.place
      c.self.inside.order.items c.close.new.order.items c.self.invariant.order
      (subst (λ (slots : List Slot). c.args.place < length slots) c.as_slice.ensures.value
      (c.is_gone_at.ensures.within c.if-is_gone_at.true)) c.remove.ensures.items c.close.ensures.order;
  room = omega (arith, c.remove.ensures.len, c.self.invariant.room, c.close.ensures.room);
}

pub returns-then-is_gone_at-clause-by : goal.returns-then-is_gone_at-clause-by
returns-then-is_gone_at-clause-by c = λ now by.
    subst (AllEndedBy now) (sym c.remove.ensures.items)
    (ended_by_remove now c.self.inside.slots.items c.args.place
    (subst (AllEndedBy now) (sym c.self.view_is) by))

pub returns-then-is_gone_at-clause-counted : goal.returns-then-is_gone_at-clause-counted
returns-then-is_gone_at-clause-counted c = λ number all.
    subst (AllCounted number) (sym c.remove.ensures.items)
    (counted_by_remove number c.self.inside.slots.items c.args.place
    (subst (AllCounted number) (sym c.self.view_is) all))
