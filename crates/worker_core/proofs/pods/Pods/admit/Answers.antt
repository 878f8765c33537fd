use Rattle.std.proofs.Common.{List, length, ap, subst, sym, ◌∙◌, arith, rules}
use Rattle.worker_core.specs.declared.order.Due.{Due}
use Rattle.worker_core.specs.declared.slots.Slot.{Slot}
use Rattle.worker_core.specs.Order.{refreshed}
use Rattle.worker_core.specs.Slots.{AllCounted, AllEndedBy}
use Rattle.worker_core.proofs.Counts.{counted_by_push}
use Rattle.worker_core.proofs.Rooms.{length_order, order_grown, room_pushed}
use Rattle.worker_core.proofs.pods.Pods.admit.Goals as goal

pub overflow_sub-place : goal.overflow_sub-place
overflow_sub-place c = omega (
  arith,
  c.len.ensures,
  c.len-place.ensures,
  ap (λ (ds : List Due). length ds) c.self.invariant.order,
  length_order 0 c.self.inside.slots.items,
)

pub refresh-requires : goal.refresh-requires
refresh-requires c = λ inside.
    room_pushed c.self.inside.slots.items c.reserve.new.self.items c.len-place.result _
    (c.reserve.ensures.items ∙ c.self.invariant.order)
    (omega (arith, c.in_ok-reserve.ensures.ok, c.len-place.ensures, c.len.ensures, c.reserve.ensures.len))

pub invariant_of-self-2 : goal.invariant_of-self-2
invariant_of-self-2 c = record {
  order = order_grown c.args.slot c.self.inside.slots.items c.admitted.new.slots.items c.len-place.result
      c.reserve.new.self.items c.refresh.new.order.items (c.reserve.ensures.items ∙ c.self.invariant.order)
      c.in_ok-admitted.ensures.slots (search rules)
      (c.refresh.ensures.order ∙ ap (λ (slots : List Slot). refreshed c.len-place.result slots
      c.reserve.new.self.items) c.as_slice.ensures.value);
  room = omega (
    arith,
    c.in_ok-reserve.ensures.ok,
    c.len-place.ensures,
    c.len.ensures,
    c.reserve.ensures.len,
    c.admitted.ensures.more,
    c.refresh.ensures.room,
  );
}

pub returns-clause-by : goal.returns-clause-by
returns-clause-by c = λ now by. c.admitted.ensures.by now (subst (AllEndedBy now) (sym c.self.view_is) by)

pub returns-clause-counted : goal.returns-clause-counted
returns-clause-counted c = λ number all.
    counted_by_push number c.self.inside.slots.items c.admitted.new.slots.items c.args.slot
    c.in_ok-admitted.ensures.slots c.requires.counted (subst (AllCounted number) (sym c.self.view_is) all)
