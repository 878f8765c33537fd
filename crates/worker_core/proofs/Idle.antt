-- A worker that is nobody's holder holds nothing.
use Rattle.std.proofs.Common.{◌≡◌, ℕ, nat_lt, Bool, true, false, List, length, Some, None, slice_get, get_or}
use Rattle.std.proofs.Common.{cond, refl, sym, ◌∙◌, ap, arith}
use Rattle.std.proofs.lemmas.Bool.{eq-eqb, ltb-false}
use Rattle.std.proofs.lemmas.List.Sums.{fails_before_first}
use Rattle.std.proofs.lemmas.Option.{get_or_from_slice_get, slice_get_within}
use Rattle.std.specs.List.{position_or_len}
use Rattle.worker_core.specs.declared.slots.Held.{Held}
use Rattle.worker_core.specs.declared.slots.Slot.{Slot}
use Rattle.worker_core.specs.Nodes.{NodeState, OnNode, slot_of, slots_of}
use Rattle.worker_core.specs.Slots.{holder_of, is_held_by}
use Rattle.worker_core.proofs.Lists.{there}

none_passes : (b : Bool) (place : ℕ) → cond b (Some place) None ≡ None → b ≡ false
none_passes true place e = absurd cc
none_passes false place e = refl

pub idle_holds_none : (node : NodeState) (worker : ℕ) → holder_of worker (slots_of node) ≡ None
    → (at : ℕ) (p : OnNode) → slice_get node.pods at ≡ Some p
    → (held : Held) → p.held ≡ Some held → held.worker ≡ worker → ⊥
idle_holds_none node worker idle at p here held by e =
    let test : Slot → Bool = λ (s : Slot). is_held_by worker s.held in
    let slots : List Slot = slots_of node in
    let slot : Slot = slot_of node.settings p in
    let at_is : slice_get slots at ≡ Some slot = there (slot_of node.settings) node.pods at p here in
    let past : nat_lt (position_or_len test slots) (length slots) ≡ false =
    none_passes (nat_lt (position_or_len test slots) (length slots)) (position_or_len test slots) idle in
    let fails : test (get_or slots at slot) ≡ false =
    fails_before_first test slots at slot
    (omega (arith, ltb-false _ _ past, slice_get_within slots at slot at_is)) in
    let same : get_or slots at slot ≡ slot = get_or_from_slice_get slots at slot slot at_is in
    let holds : is_held_by worker p.held ≡ true = ap (is_held_by worker) by ∙ eq-eqb held.worker worker e in
    let differ : true ≡ false = sym holds ∙ ap test (sym same) ∙ fails in
    cc
