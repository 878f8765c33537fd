-- The pod that a worker is given is one that is due, and waited longest of these.
use Rattle.std.proofs.Common.{◌≡◌, ◌⊎◌, inl, inr, ℕ, ◌+◌, ◌<◌, ◌≤◌, nat_lt, Bool, true, false, ◌&&◌}
use Rattle.std.proofs.Common.{if◌then◌else◌, List, [], ◌∷◌, Option, Some, None, slice_get, refl, sym, ◌∙◌, ap}
use Rattle.std.proofs.Common.{suc, zero, arith}
use Rattle.std.proofs.lemmas.Bool.{ltb-true, ltb-false}
use Rattle.worker_pod.specs.Next.{has_come}
use Rattle.worker_core.specs.declared.slots.Slot.{Slot}
use Rattle.worker_core.specs.declared.turns.Turn.{Turn}
use Rattle.worker_core.specs.Slots.{free_due}
use Rattle.worker_core.specs.Turns.{better, is_longer, longest, longest_from}

abbrev pub is_open : ℕ → Slot → Bool
is_open now slot = has_come (free_due slot) now

and_left : (a b : Bool) → (a && b) ≡ true → a ≡ true
and_left true b e = refl
and_left false b e = e

and_right : (a b : Bool) → (a && b) ≡ true → b ≡ true
and_right true b e = e
and_right false b e = absurd cc

and_false : (a b : Bool) → a ≡ true → (a && b) ≡ b
and_false true b e = refl
and_false false b e = absurd cc

abbrev turn_at : ℕ → Slot → Turn
turn_at at slot = record { place = at; worked = slot.state.worked }

-- the turn is this pod's
record IsNew (now at : ℕ) (slot : Slot) (best : Option Turn) (turn : Turn) : Type 0 where
  open_is : is_open now slot ≡ true
  longer : is_longer best slot.state.worked ≡ true
  place : turn.place ≡ at
  worked : turn.worked ≡ slot.state.worked

better_is : (now at : ℕ) (slot : Slot) (best : Option Turn) (turn : Turn)
    → better now best at slot ≡ Some turn → (best ≡ Some turn) ⊎ IsNew now at slot best turn
better_is now at slot best turn e = by_test (is_open now slot && is_longer best slot.state.worked) refl
    e where
      by_test : (b : Bool) → (is_open now slot && is_longer best slot.state.worked) ≡ b
          → (if b then Some (turn_at at slot) else best) ≡ Some turn
          → (best ≡ Some turn) ⊎ IsNew now at slot best turn
      by_test true t e =
          let same : turn_at at slot ≡ turn = cc in
          inr (record {
            open_is = and_left (is_open now slot) (is_longer best slot.state.worked) t;
            longer = and_right (is_open now slot) (is_longer best slot.state.worked) t;
            place = sym (ap (λ (x : Turn). x.place) same);
            worked = sym (ap (λ (x : Turn). x.worked) same);
          })
      by_test false t e = inl e

-- the turn is that of a due pod
pub record IsOpen (now at : ℕ) (slots : List Slot) (turn : Turn) : Type 0 where
  pub off : ℕ
  pub slot : Slot
  pub here : slice_get slots off ≡ Some slot
  pub open_is : is_open now slot ≡ true
  pub place : turn.place ≡ at + off
  pub worked : turn.worked ≡ slot.state.worked

open_from : (now at : ℕ) (best : Option Turn) (slots : List Slot) (turn : Turn)
    → longest_from now at best slots ≡ Some turn → (best ≡ Some turn) ⊎ IsOpen now at slots turn
open_from now at best [] turn e = inl e
open_from now at best (s ∷ ss) turn e =
    elim (open_from now (at + 1) (better now best at s) ss turn e) [
      | inl same ↦ elim (better_is now at s best turn same) [
        | inl kept ↦ inl kept
        | inr new ↦ inr (record {
          off = 0;
          slot = s;
          here = refl;
          open_is = new.open_is;
          place =
              omega (arith, new.place);
          worked = new.worked;
        })
      ]
      | inr o ↦ inr (record {
        off = suc o.off;
        slot = o.slot;
        here = o.here;
        open_is = o.open_is;
        place =
            omega (arith, o.place);
        worked = o.worked;
      })
    ]

pub longest_open : (now : ℕ) (slots : List Slot) (turn : Turn) → longest now slots ≡ Some turn
    → IsOpen now 0 slots turn
longest_open now slots turn e = elim (open_from now 0 None slots turn e) [ inl none ↦ absurd cc | inr o ↦ o ]

-- some turn is found, and comes no later than a pod at this place that was worked on by this number
pub record Found (o : Option Turn) (place worked : ℕ) : Type 0 where
  pub turn : Turn
  pub is : o ≡ Some turn
  pub no_later : turn.worked ≤ worked
  pub before : place < turn.place → turn.worked < worked

best_stays : (now at : ℕ) (best : Option Turn) (slots : List Slot) (place worked : ℕ) → place < at
    → Found best place worked → Found (longest_from now at best slots) place worked
best_stays now at best [] place worked less f = f
best_stays now at best (s ∷ ss) place worked less f =
    best_stays now (at + 1) (better now best at s) ss place worked (omega (arith, less))
    (by_test (is_open now s && is_longer best s.state.worked) refl)
  where
    by_test : (b : Bool) → (is_open now s && is_longer best s.state.worked) ≡ b
        → Found (if b then Some (turn_at at s) else best) place worked
    by_test true t =
        let longer : is_longer best s.state.worked ≡ true =
        and_right (is_open now s) (is_longer best s.state.worked) t in
        let longer_best : nat_lt s.state.worked f.turn.worked ≡ true =
        sym (ap (λ (o : Option Turn). is_longer o s.state.worked) f.is) ∙ longer in
        let lower : s.state.worked < f.turn.worked = ltb-true s.state.worked f.turn.worked longer_best in
        record {
          turn = turn_at at s;
          is = refl;
          no_later = omega (arith, lower, f.no_later);
          before = λ _.
              omega (arith, lower, f.no_later);
        }
    by_test false t = f

pub placed_before : (now at : ℕ) (best : Option Turn) (s : Slot) → ((b : Turn) → best ≡ Some b → b.place < at)
    → (b : Turn) → better now best at s ≡ Some b → b.place < at + 1
placed_before now at best s before b e =
    elim (better_is now at s best b e) [
      | inl same ↦ omega (arith, before b same)
      | inr new ↦ omega (arith, new.place)
    ]

found_here : (now at : ℕ) (best : Option Turn) (s : Slot) → ((b : Turn) → best ≡ Some b → b.place < at)
    → is_open now s ≡ true → Found (better now best at s) at s.state.worked
found_here now at best s before is = by_best best refl where
  by_test : (b : Turn) → best ≡ Some b → (longer : Bool) → nat_lt s.state.worked b.worked ≡ longer
      → Found (if longer then Some (turn_at at s) else Some b) at s.state.worked
  by_test b same true t = record {
    turn = turn_at at s;
    is = refl;
    no_later = omega arith;
    before = λ l.
        absurd (omega (arith, l));
  }
  by_test b same false t =
      let le : b.worked ≤ s.state.worked = ltb-false s.state.worked b.worked t in
      let stands : b.place < at = before b same in
      record { turn = b; is = refl; no_later = le; before = λ l. absurd (omega (arith, l, stands)) }

  by_best : (o : Option Turn) → best ≡ o
      → Found (if is_open now s && is_longer o s.state.worked then Some (turn_at at s)
      else o) at s.state.worked
  by_best None same = rw is (record {
    turn = turn_at at s;
    is = refl;
    no_later = omega arith;
    before = λ l.
        absurd (omega (arith, l));
  })
  by_best (Some b) same = rw is (by_test b same (nat_lt s.state.worked b.worked) refl)

found_from : (now at : ℕ) (best : Option Turn) (slots : List Slot)
    → ((b : Turn) → best ≡ Some b → b.place < at)
    → (off : ℕ) (slot : Slot) → slice_get slots off ≡ Some slot → is_open now slot ≡ true
    → Found (longest_from now at best slots) (at + off) slot.state.worked
found_from now at best [] before off slot here is = absurd cc
found_from now at best (s ∷ ss) before zero slot here is =
    let same : slot ≡ s = cc in
    rw same (moved (at + 1) (omega arith) (best_stays now (at + 1) (better now best at s) ss at s.state.worked
    (omega arith) (found_here now at best s before (ap (is_open now) (sym same) ∙ is))))
  where
    moved : (next : ℕ) → at + 0 ≡ at → Found (longest_from now next (better now best at s) ss) at
        s.state.worked → Found (longest_from now next (better now best at s) ss) (at + 0) s.state.worked
    moved next e f = record {
      turn = f.turn;
      is = f.is;
      no_later = f.no_later;
      before = λ l.
          f.before (omega (arith, l));
    }
found_from now at best (s ∷ ss) before (suc off) slot here is =
    let f : Found (longest_from now (at + 1) (better now best at s) ss) (at + 1 + off) slot.state.worked =
    found_from now (at + 1) (better now best at s) ss (placed_before now at best s before) off slot here is in
    record { turn = f.turn; is = f.is; no_later = f.no_later; before = λ l. f.before (omega (arith, l)) }

-- each pod that is due waited no longer than the one that is found
pub longest_found : (now : ℕ) (slots : List Slot) (at : ℕ) (slot : Slot) → slice_get slots at ≡ Some slot
    → is_open now slot ≡ true → Found (longest now slots) at slot.state.worked
longest_found now slots at slot here is =
    let f : Found (longest now slots) (0 + at) slot.state.worked =
    found_from now 0 None slots (λ b none. absurd cc) at slot here is in
    record { turn = f.turn; is = f.is; no_later = f.no_later; before = λ l. f.before (omega (arith, l)) }
