use Rattle.std.proofs.Common.{List, length, ap, subst, sym, ◌∙◌, arith}
use Rattle.worker_core.specs.declared.slots.Slot.{Slot}
use Rattle.worker_core.specs.Order.{refreshed}
use Rattle.worker_core.specs.Slots.{AllCounted, AllEndedBy, deleted}
use Rattle.worker_core.proofs.Counts.{counted_by_delete}
use Rattle.worker_core.proofs.Rooms.{order_refreshed, room_changed}
use Rattle.worker_core.proofs.pods.Pods.delete.Goals as goal

pub refresh-requires : goal.refresh-requires
refresh-requires c = λ inside.
    room_changed c.self.inside.slots.items c.self.inside.order.items c.args.place _ c.self.invariant.order
    c.self.invariant.room
    (omega (arith, inside, ap length c.as_slice.ensures.value, c.deleted_at.ensures.same))

pub invariant_of-self : goal.invariant_of-self
invariant_of-self c = record {
  order = order_refreshed deleted c.self.inside.slots.items c.deleted_at.new.slots.items c.args.place
      c.self.inside.order.items c.refresh.new.order.items c.self.invariant.order c.deleted_at.ensures.slots
      (c.refresh.ensures.order ∙ ap (λ (slots : List Slot). refreshed c.args.place slots
      c.self.inside.order.items) c.as_slice.ensures.value);
  room = omega (arith, c.deleted_at.ensures.same, c.self.invariant.room, c.refresh.ensures.room);
}

pub returns-clause-by : goal.returns-clause-by
returns-clause-by c = λ now by. c.deleted_at.ensures.by now (subst (AllEndedBy now) (sym c.self.view_is) by)

pub returns-clause-counted : goal.returns-clause-counted
returns-clause-counted c = λ number all.
    counted_by_delete number c.self.inside.slots.items c.deleted_at.new.slots.items c.args.place
    c.deleted_at.ensures.slots (subst (AllCounted number) (sym c.self.view_is) all)
