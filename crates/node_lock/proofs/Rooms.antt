-- The claims that are held after an event.
use Rattle.std.proofs.Common.{◌≡◌, ℕ, zero, suc, ◌+◌, ◌≤◌, nat_lt, Bool, true, false, if◌then◌else◌, List, []}
use Rattle.std.proofs.Common.{◌∷◌, ◌++◌, Option, Some, None, slice_get, slice_set, get_or, refl, ap, arith}
use Rattle.std.specs.List.{remove}
use Rattle.std.proofs.lemmas.List.Quantifiers.{position-Some}
use Rattle.std.proofs.lemmas.Option.{slice_get-get_or}
use Rattle.worker_pod.specs.declared.settings.Outcome.{Outcome}
use Rattle.worker_pod.specs.declared.settings.Outcome.TheVariants as outcome
use Rattle.worker_core.specs.declared.events.AgentEvent.{AgentEvent}
use Rattle.worker_core.specs.declared.events.AgentEvent.TheVariants.{Admit, Delete, Claim, Report, Tick}
use Rattle.worker_core.specs.declared.events.AgentEvent.TheVariants.{Abandon}
use Rattle.worker_core.specs.declared.answers.NodeRefusal.{NodeRefusal}
use Rattle.worker_core.specs.declared.slots.Held.{Held}
use Rattle.worker_core.specs.declared.slots.Slot.{Slot}
use Rattle.worker_core.specs.Kept.{KeptNode, after_admit, after_claim, after_delete, after_end, after_event}
use Rattle.worker_core.specs.Kept.{after_grant, grant_of, refusal_of, with_moment}
use Rattle.worker_core.specs.Slots.{changed, changed_to, claimed_by, deleted, ended, ended_at, fresh_slot}
use Rattle.worker_core.specs.Slots.{held_in, holder_of, is_free, is_gone_slot, is_held_by, left, outcome_of}
use Rattle.worker_core.specs.Slots.{place_of}
use Rattle.node_lock.specs.Rooms.{room_for, room_to_end}

-- whether the pod of one place is held
abbrev held_by : Option Held → ℕ
held_by held = if is_free held then 0 else 1

abbrev held_at : Slot → ℕ
held_at slot = held_by slot.held

held_at_most : (slot : Slot) → held_at slot ≤ 1
held_at_most slot = by_free (is_free slot.held) where
  by_free : (free : Bool) → ◌≤◌ (if free then 0 else 1) 1
  by_free true = omega arith
  by_free false = omega arith

held_append : (xs ys : List Slot) → held_in (xs ++ ys) ≡ held_in xs + held_in ys
held_append [] ys = omega arith
held_append (x ∷ xs) ys = let rest = held_append xs ys in omega (arith, rest)

held_set : (xs : List Slot) (place : ℕ) (x y : Slot) → slice_get xs place ≡ Some x
    → held_in (slice_set xs place y) + held_at x ≡ held_in xs + held_at y
held_set [] place x y here = absurd cc
held_set (z ∷ zs) zero x y here =
    let same : z ≡ x = cc in
    rw same (omega arith)
held_set (z ∷ zs) (suc place) x y here = let rest = held_set zs place x y here in omega (arith, rest)

-- whatever is put there, at most one more pod is held
held_more : (f : Slot → Slot) (xs : List Slot) (place : ℕ) (o : Option Slot) → slice_get xs place ≡ o
    → held_in (changed_to f xs place o) ≤ held_in xs + 1
held_more f xs place None here = omega arith
held_more f xs place (Some x) here =
    let set = held_set xs place x (f x) here in
    omega (arith, set, held_at_most (f x))

-- if the holder stays, as many are held
held_same : (f : Slot → Slot) → ((x : Slot) → (f x).held ≡ x.held)
    → (xs : List Slot) (place : ℕ) (o : Option Slot) → slice_get xs place ≡ o
    → held_in (changed_to f xs place o) ≡ held_in xs
held_same f same xs place None here = refl
held_same f same xs place (Some x) here =
    let set = held_set xs place x (f x) here in
    let as_many : held_at (f x) ≡ held_at x = ap held_by (same x) in
    omega (arith, set, as_many)

held_fewer : (xs : List Slot) (place : ℕ) → held_in (remove xs place) ≤ held_in xs
held_fewer [] zero = omega arith
held_fewer [] (suc place) = omega arith
held_fewer (x ∷ xs) zero = omega arith
held_fewer (x ∷ xs) (suc place) = let rest = held_fewer xs place in omega (arith, rest)

held_left : (xs : List Slot) (place : ℕ) → held_in (left xs place) ≤ held_in xs
held_left xs place = by_gone (is_gone_slot (slice_get xs place)) where
  by_gone : (gone : Bool) → held_in (if gone then remove xs place else xs) ≤ held_in xs
  by_gone true = held_fewer xs place
  by_gone false = omega arith

held_by_one : (worker : ℕ) (held : Option Held) → is_held_by worker held ≡ true → held_by held ≡ 1
held_by_one worker None by = absurd cc
held_by_one worker (Some held) by = refl

-- the pod whose claim ends was held
held_ended : (now : ℕ) (how : Outcome) (worker place : ℕ) (slots : List Slot)
    → holder_of worker slots ≡ Some place → held_in (ended_at now how slots place) + 1 ≤ held_in slots
held_ended now how worker place [] is = absurd cc
held_ended now how worker place (x ∷ xs) is =
    let slots = x ∷ xs in
    let slot = get_or slots place x in
    let found = position-Some (λ (s : Slot). is_held_by worker s.held) slots place x is in
    let here : slice_get slots place ≡ Some slot = slice_get-get_or slots place x found.0 in
    let one : held_at slot ≡ 1 = held_by_one worker slot.held found.1 in
    let set = held_set slots place slot (ended now how slot) here in
    let few : held_in (ended_at now how slots place) ≤ held_in (changed (ended now how) slots place) =
    held_left (changed (ended now how) slots place) place in
    let is_set : held_in (changed (ended now how) slots place)
    ≡ held_in (slice_set slots place (ended now how slot)) =
    ap (λ (o : Option Slot). held_in (changed_to (ended now how) slots place o)) here in
    omega (arith, one, set, few, is_set)

ended_room : (kept : KeptNode) (how : Outcome) (worker : ℕ) (h : Option ℕ) → holder_of worker kept.slots ≡ h
    → held_in (after_end kept how h).slots + 1 ≤ held_in kept.slots + room_to_end h
ended_room kept how worker None is = omega arith
ended_room kept how worker (Some place) is = let fewer =
    held_ended kept.moment how worker place kept.slots is in omega (arith, fewer)

-- the room for an event is enough for its entry and for the claims held then
pub room_enough : (kept : KeptNode) (event : AgentEvent)
    → held_in (after_event kept event).slots + 1 ≤ held_in kept.slots + room_for kept event
room_enough kept (Admit pod) = by_refusal (refusal_of kept pod) where
  by_refusal : (r : Option NodeRefusal) → held_in (after_admit kept pod r).slots + 1 ≤ held_in kept.slots + 1
  by_refusal None = let more = held_append kept.slots (fresh_slot pod kept.settings ∷ []) in
      omega (arith, more)
  by_refusal (Some refusal) = omega arith
room_enough kept (Delete uid) = by_place (place_of uid kept.slots) where
  by_place : (p : Option ℕ) → held_in (after_delete kept p).slots + 1 ≤ held_in kept.slots + 1
  by_place None = omega arith
  by_place (Some place) = let same = held_same deleted (λ x. refl) kept.slots place
      (slice_get kept.slots place) refl in omega (arith, same)
room_enough kept (Claim worker) = by_holder (holder_of worker kept.slots) where
  by_grant : (g : Option _) → held_in (after_grant kept worker g).slots + 1 ≤ held_in kept.slots + 2
  by_grant None = omega arith
  by_grant (Some grant) =
      let more = held_more (claimed_by (record { worker = worker; request = grant.request })) kept.slots
      grant.place (slice_get kept.slots grant.place) refl in
      omega (arith, more)

  by_holder : (h : Option ℕ) → held_in (after_claim kept worker h).slots + 1 ≤ held_in kept.slots + 2
  by_holder None = by_grant (grant_of kept)
  by_holder (Some place) = omega arith
room_enough kept (Report worker reported) =
    ended_room kept (outcome_of reported) worker (holder_of worker kept.slots) refl
room_enough kept (Tick now) = by_past (nat_lt now kept.moment) where
  by_past : (past : Bool) → held_in (if past then kept else with_moment kept now).slots
      + 1 ≤ held_in kept.slots + 1
  by_past true = omega arith
  by_past false = omega arith
room_enough kept (Abandon worker) = ended_room kept outcome.Abandoned worker
    (holder_of worker kept.slots) refl
