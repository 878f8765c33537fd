use Rattle.std.proofs.Common.{List, length, ap, subst, sym, ◌∙◌, arith}
use Rattle.worker_core.specs.declared.slots.Slot.{Slot}
use Rattle.worker_core.specs.Order.{refreshed}
use Rattle.worker_core.specs.Slots.{AllCounted, ended}
use Rattle.worker_core.proofs.Rooms.{order_refreshed, room_changed}
use Rattle.worker_core.proofs.pods.Pods.end.Goals as goal

pub refresh-requires : goal.refresh-requires
refresh-requires c = λ inside.
    room_changed c.self.inside.slots.items c.self.inside.order.items c.args.place _ c.self.invariant.order
    c.self.invariant.room
    (omega (arith, inside, ap length c.as_slice.ensures.value, c.claim_ended.ensures.same))

pub invariant_of-self : goal.invariant_of-self
invariant_of-self c = record {
  order = order_refreshed (ended c.args.now c.args.outcome) c.self.inside.slots.items
      c.claim_ended.new.slots.items c.args.place
      c.self.inside.order.items c.refresh.new.order.items c.self.invariant.order
      c.claim_ended.ensures.slots
      (c.refresh.ensures.order ∙ ap (λ (slots : List Slot). refreshed c.args.place slots
      c.self.inside.order.items) c.as_slice.ensures.value);
  room = omega (arith, c.claim_ended.ensures.same, c.self.invariant.room, c.refresh.ensures.room);
}

pub returns-clause-by : goal.returns-clause-by
returns-clause-by c = c.leave.ensures.by c.args.now c.claim_ended.ensures.by

pub returns-clause-counted : goal.returns-clause-counted
returns-clause-counted c = λ number all. c.leave.ensures.counted number
    (c.claim_ended.ensures.counted number (subst (AllCounted number) (sym c.self.view_is) all))
