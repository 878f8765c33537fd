-- How many can be given, and the order of those that can once a pod was added or has changed.
use Rattle.std.proofs.Common.{◌≡◌, ℕ, ◌+◌, ◌<◌, ◌≤◌, Bool, true, false, not, ◌==◌, if◌then◌else◌}
use Rattle.std.proofs.Common.{cond, List, [], ◌∷◌, ◌++◌, length, Option, Some, None}
use Rattle.std.proofs.Common.{slice_get, refl, sym, ◌∙◌, ap, suc, zero, arith}
use Rattle.worker_core.specs.declared.order.Due.{Due}
use Rattle.worker_core.specs.declared.slots.Slot.{Slot}
use Rattle.worker_core.specs.Order.{due_at, due_with, order_from, order_of, put, put_if}
use Rattle.worker_core.specs.Order.{refreshed, reseated_if, stands_before, without}
use Rattle.worker_core.specs.Slots.{changed, changed_to, free_due}
use Rattle.worker_core.proofs.Lists.{changed_behind}
use Rattle.worker_core.proofs.Orders.{order_changed, order_pushed, out_first, out_then_put_if, sorted_order}

length_put : (due : Due) (ds : List Due) → length (put due ds) ≡ length ds + 1
length_put due [] = refl
length_put due (x ∷ ds) = by_test (length_put due ds) (stands_before x due) where
  by_test : length (put due ds) ≡ length ds + 1 → (t : Bool)
      → length (if t then x ∷ put due ds else due ∷ x ∷ ds) ≡ length (x ∷ ds) + 1
  by_test rest true = omega (arith, rest)
  by_test rest false = omega arith

length_put_if : (place : ℕ) (slot : Slot) (ds : List Due) → length (put_if (due_at place slot) ds)
    ≤ length ds + 1
length_put_if place slot ds = by_due (free_due slot) where
  by_due : (o : Option ℕ) → length (put_if (due_with place slot.state.worked o) ds) ≤ length ds + 1
  by_due None = omega arith
  by_due (Some from) =
      omega (arith, length_put (record { place = place; from = from; worked = slot.state.worked }) ds)

length_without : (p : ℕ) (ds : List Due) → length (without p ds) ≤ length ds
length_without p [] = omega arith
length_without p (x ∷ ds) = by_test (length_without p ds) (not (x.place == p)) where
  by_test : length (without p ds) ≤ length ds → (t : Bool)
      → length (cond t (x ∷ without p ds) (without p ds)) ≤ length (x ∷ ds)
  by_test rest true = omega (arith, rest)
  by_test rest false = omega (arith, rest)

-- at most all pods can be given
pub length_order : (at : ℕ) (slots : List Slot) → length (order_from at slots) ≤ length slots
length_order at [] = omega arith
length_order at (s ∷ ss) =
    omega (arith, length_order (at + 1) ss, length_put_if at s (order_from (at + 1) ss))

-- and fewer without one of them
fewer_without : (ss : List Slot) (at i p : ℕ) → p ≡ at + i → i < length ss
    → length (without p (order_from at ss)) < length ss
fewer_without [] at i p e l = absurd (omega (arith, l))
fewer_without (x ∷ ss) at zero p e l =
    let is : p ≡ at = omega (arith, e) in
    let out : without p (order_from at (x ∷ ss)) ≡ order_from (at + 1) ss =
    ap (λ (q : ℕ). without q (order_from at (x ∷ ss))) is ∙ out_first at x ss in
    omega (arith, ap length out, length_order (at + 1) ss)
fewer_without (x ∷ ss) at (suc i) p e l =
    let out : without p (order_from at (x ∷ ss)) ≡ put_if (due_at at x) (without p (order_from (at + 1) ss)) =
    out_then_put_if p at x (λ same. omega (arith, same, e)) (order_from (at + 1) ss)
    (sorted_order (at + 1) ss) in
    omega (
      arith,
      ap length out,
      length_put_if at x (without p (order_from (at + 1) ss)),
      fewer_without ss (at + 1) i p (omega (arith, e)) (omega (arith, l)),
    )

-- there is room for a pod that has changed
pub room_changed : (slots : List Slot) (ds : List Due) (place room : ℕ) → ds ≡ order_of slots
    → length slots ≤ room → place < length slots → length (without place ds) < room
room_changed slots ds place room e more inside =
    omega (
      arith,
      ap (λ (l : List Due). length (without place l)) e,
      fewer_without slots 0 place place (omega arith) inside,
      more,
    )

-- and for another one
pub room_pushed : (slots : List Slot) (ds : List Due) (place room : ℕ) → ds ≡ order_of slots
    → length slots < room → length (without place ds) < room
room_pushed slots ds place room e more =
    omega (
      arith,
      ap (λ (l : List Due). length (without place l)) e,
      length_without place (order_of slots),
      length_order 0 slots,
      more,
    )

-- the order is that of the changed pods
pub order_refreshed : (f : Slot → Slot) (old new : List Slot) (place : ℕ) (before after : List Due)
    → before ≡ order_of old → new ≡ changed f old place → after ≡ refreshed place new before
    → after ≡ order_of new
order_refreshed f old new place before after was is seated =
    seated ∙ (λ i. refreshed place (is i) (was i)) ∙ by_slot (slice_get old place) refl
    ∙ ap order_of (sym is)
  where
    at_changed : (xs : List Slot) (at : ℕ) (x : Slot) → slice_get xs at ≡ Some x
        → slice_get (changed f xs at) at ≡ Some (f x)
    at_changed [] at x e = absurd cc
    at_changed (y ∷ ys) zero x e = let same : y ≡ x = cc in ap (λ (s : Slot). Some (f s)) same
    at_changed (y ∷ ys) (suc at) x e =
        ap (λ (l : List Slot). slice_get l (suc at)) (changed_behind f y ys at (slice_get ys at))
        ∙ at_changed ys at x e

    by_slot : (o : Option Slot) → slice_get old place ≡ o
        → refreshed place (changed f old place) (order_of old) ≡ order_of (changed f old place)
    by_slot None e =
        let same : changed f old place ≡ old = ap (changed_to f old place) e in
        ap (λ (o : Option Slot). reseated_if place o (order_of old))
        (ap (λ (l : List Slot). slice_get l place) same ∙ e)
        ∙ ap order_of (sym same)
    by_slot (Some slot) e =
        ap (λ (o : Option Slot). reseated_if place o (order_of old)) (at_changed old place slot e)
        ∙ sym (order_changed f old 0 place place slot (omega arith) e)

at_last : (xs : List Slot) (x : Slot) → slice_get (xs ++ x ∷ []) (length xs) ≡ Some x
at_last [] x = refl
at_last (y ∷ ys) x = at_last ys x

-- the order is that of the pods with another one
pub order_grown : (slot : Slot) (old new : List Slot) (place : ℕ) (before after : List Due)
    → before ≡ order_of old → new ≡ old ++ slot ∷ [] → place ≡ length old
    → after ≡ refreshed place new before → after ≡ order_of new
order_grown slot old new place before after was is last seated =
    seated ∙ (λ i. refreshed (last i) (is i) (was i))
    ∙ ap (λ (o : Option Slot). reseated_if (length old) o (order_of old)) (at_last old slot)
    ∙ sym (order_pushed slot old 0 (length old) (omega arith))
    ∙ ap order_of (sym is)
