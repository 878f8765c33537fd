-- The order of the pods that can be given, after a pod has left and those after it have moved up.
use Rattle.std.proofs.Common.{◌≡◌, ◌⊎◌, inl, inr, ℕ, ◌+◌, ◌-◌, ◌<◌, ◌≤◌, nat_lt, Bool, true, false, not, ◌==◌}
use Rattle.std.proofs.Common.{if◌then◌else◌, cond, List, [], ◌∷◌, map, Option, Some, None, length}
use Rattle.std.proofs.Common.{refl, sym, ◌∙◌, ap, suc, zero, arith}
use Rattle.std.proofs.lemmas.Bool.{cases_order, eqb-false, lt-ltb, ltb-true}
use Rattle.std.specs.List.{remove}
use Rattle.worker_core.specs.declared.order.Due.{Due}
use Rattle.worker_core.specs.declared.slots.Slot.{Slot}
use Rattle.worker_core.specs.Order.{closed, closed_up, due_at, due_with, order_from, order_of, put, put_if}
use Rattle.worker_core.specs.Order.{stands_before, without}
use Rattle.worker_core.specs.Slots.{free_due}
use Rattle.worker_core.proofs.Orders.{AllFrom, Before, after_is, before_is, from_order, is_after, is_before}
use Rattle.worker_core.proofs.Orders.{out_first, out_then_put_if, put_here, put_past, sorted_order}

-- the place of a pod after the one at this place has left
abbrev moved : ℕ → ℕ → ℕ
moved p place = if nat_lt p place then place - 1 else place

keeps_place : (p place : ℕ) → place < p → moved p place ≡ place
keeps_place p place l = by_test (nat_lt p place) refl where
  by_test : (t : Bool) → nat_lt p place ≡ t → (if t then place - 1 else place) ≡ place
  by_test true e = absurd (omega (arith, l, ltb-true p place e))
  by_test false e = refl

moves_up : (p place : ℕ) → p < place → moved p place + 1 ≡ place
moves_up p place l =
    ap (λ (t : Bool). (if t then place - 1 else place) + 1) (lt-ltb p place l) ∙ omega (arith, l)

moves : (p place : ℕ) → (place ≡ p → ⊥)
    → ((p < place) × (moved p place + 1 ≡ place)) ⊎ ((place < p) × (moved p place ≡ place))
moves p place apart =
    elim (cases_order p place) [
      | inl same ↦ absurd (apart (sym same))
      | inr differ ↦ elim differ [
        | inl l ↦ inl (l, moves_up p place l)
        | inr l ↦ inr (l, keeps_place p place l)
      ]
    ]

-- the others stay in their order
moved_less : (p a b : ℕ) → (a ≡ p → ⊥) → (b ≡ p → ⊥) → a < b → moved p a < moved p b
moved_less p a b apart its l =
    elim (moves p a apart) [
      | inl u ↦ elim (moves p b its) [
        | inl v ↦ omega (arith, u.1, v.1, l)
        | inr v ↦ absurd (omega (arith, u.0, v.0, l))
      ]
      | inr u ↦ elim (moves p b its) [
        | inl v ↦ omega (arith, u.0, u.1, v.0, v.1)
        | inr v ↦ omega (arith, u.1, v.1, l)
      ]
    ]

less_before : (p a b : ℕ) → (a ≡ p → ⊥) → (b ≡ p → ⊥) → moved p a < moved p b → a < b
less_before p a b apart its l =
    elim (moves p a apart) [
      | inl u ↦ elim (moves p b its) [
        | inl v ↦ omega (arith, u.1, v.1, l)
        | inr v ↦ absurd (omega (arith, u.0, u.1, v.0, v.1, l))
      ]
      | inr u ↦ elim (moves p b its) [
        | inl v ↦ omega (arith, u.0, v.0)
        | inr v ↦ omega (arith, u.1, v.1, l)
      ]
    ]

module _ (p : ℕ) where
  up_before : (a b : Due) → (a.place ≡ p → ⊥) → (b.place ≡ p → ⊥) → Before a b
      → Before (closed_up p a) (closed_up p b)
  up_before a b apart its (inl l) = inl l
  up_before a b apart its (inr e) = inr (e.0, moved_less p a.place b.place apart its e.1)

  before_up : (a b : Due) → (a.place ≡ p → ⊥) → (b.place ≡ p → ⊥)
      → Before (closed_up p a) (closed_up p b) → Before a b
  before_up a b apart its (inl l) = inl l
  before_up a b apart its (inr e) = inr (e.0, less_before p a.place b.place apart its e.1)

  -- none of them is of the pod at this place
  abbrev Apart : List Due → Type 0
  Apart [] = Unit {0}
  Apart (x ∷ ds) = (x.place ≡ p → ⊥) × Apart ds

  apart_without : (ds : List Due) → Apart (without p ds)
  apart_without [] = tt
  apart_without (x ∷ ds) = by_test (apart_without ds) (x.place == p) refl where
    by_test : Apart (without p ds) → (t : Bool) → (x.place == p) ≡ t
        → Apart (cond (not t) (x ∷ without p ds) (without p ds))
    by_test rest true e = rest
    by_test rest false e = (eqb-false x.place p e, rest)

  apart_from : (at : ℕ) → p < at → (ds : List Due) → AllFrom at ds → Apart ds
  apart_from at l [] h = tt
  apart_from at l (x ∷ ds) h = ((λ e. omega (arith, e, l, h.0)), apart_from at l ds h.1)

  up_put : (due : Due) → (due.place ≡ p → ⊥) → (ds : List Due) → Apart ds
      → map (closed_up p) (put due ds) ≡ put (closed_up p due) (map (closed_up p) ds)
  up_put due apart [] h = refl
  up_put due apart (x ∷ ds) h = by_test (up_put due apart ds h.1) (stands_before x due) refl where
    by_test : map (closed_up p) (put due ds) ≡ put (closed_up p due) (map (closed_up p) ds)
        → (t : Bool) → stands_before x due ≡ t
        → map (closed_up p) (if t then x ∷ put due ds else due ∷ x ∷ ds)
        ≡ put (closed_up p due) (closed_up p x ∷ map (closed_up p) ds)
    by_test rest true e = ap (λ (l : List Due). closed_up p x ∷ l) rest
        ∙ sym (put_past (closed_up p x) (closed_up p due) (map (closed_up p) ds)
        (is_before (closed_up p x) (closed_up p due) (up_before x due h.0 apart (before_is x due e))))
    by_test rest false e = sym (put_here (closed_up p x) (closed_up p due) (map (closed_up p) ds)
        (is_after (closed_up p x) (closed_up p due) (λ b. after_is x due e (before_up x due h.0 apart b))))

  up_put_if : (place to : ℕ) (slot : Slot) → (place ≡ p → ⊥) → moved p place ≡ to → (ds : List Due) → Apart ds
      → map (closed_up p) (put_if (due_at place slot) ds)
      ≡ put_if (due_at to slot) (map (closed_up p) ds)
  up_put_if place to slot apart e ds h = by_due (free_due slot) where
    by_due : (o : Option ℕ) → map (closed_up p) (put_if (due_with place slot.state.worked o) ds)
        ≡ put_if (due_with to slot.state.worked o) (map (closed_up p) ds)
    by_due None = refl
    by_due (Some from) =
        up_put (record { place = place; from = from; worked = slot.state.worked }) apart ds h
        ∙ ap (λ (q : ℕ). put (record { place = q; from = from; worked = slot.state.worked })
        (map (closed_up p) ds)) e

  -- those after the place move up by one
  all_up : (ss : List Slot) (at next : ℕ) → p ≤ at → next ≡ at + 1
      → map (closed_up p) (order_from next ss) ≡ order_from at ss
  all_up [] at next l e = refl
  all_up (s ∷ ss) at next l e =
      up_put_if next at s (λ same. omega (arith, same, l, e))
      (omega (arith, moves_up p next (omega (arith, l, e)), e)) (order_from (next + 1) ss)
      (apart_from (next + 1) (omega (arith, l, e)) (order_from (next + 1) ss) (from_order (next + 1) ss))
      ∙ ap (put_if (due_at at s)) (all_up ss (at + 1) (next + 1) (omega (arith, l)) (omega (arith, e)))

-- the order of the remaining ones
closed_from : (ss : List Slot) (at i p : ℕ) → p ≡ at + i → i < length ss
    → closed p (order_from at ss) ≡ order_from at (remove ss i)
closed_from [] at i p e l = absurd (omega (arith, l))
closed_from (x ∷ ss) at zero p e l =
    let is : p ≡ at = omega (arith, e) in
    ap (map (closed_up p)) (ap (λ (q : ℕ). without q (order_from at (x ∷ ss))) is ∙ out_first at x ss)
    ∙ all_up p ss at (at + 1) (omega (arith, is)) refl
closed_from (x ∷ ss) at (suc i) p e l =
    let apart : at ≡ p → ⊥ = λ same. omega (arith, same, e) in
    ap (map (closed_up p)) (out_then_put_if p at x apart (order_from (at + 1) ss) (sorted_order (at + 1) ss))
    ∙ up_put_if p at at x apart (keeps_place p at (omega (arith, e))) (without p (order_from (at + 1) ss))
    (apart_without p (order_from (at + 1) ss))
    ∙ ap (put_if (due_at at x)) (closed_from ss (at + 1) i p (omega (arith, e)) (omega (arith, l)))

pub order_closed : (old new : List Slot) (place : ℕ) (before after : List Due) → before ≡ order_of old
    → place < length old → new ≡ remove old place → after ≡ closed place before → after ≡ order_of new
order_closed old new place before after was l is out =
    out ∙ ap (closed place) was ∙ closed_from old 0 place place (omega arith) l ∙ ap order_of (sym is)
