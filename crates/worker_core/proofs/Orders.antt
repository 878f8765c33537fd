-- The order of the pods that can be given, under their changes.
use Rattle.std.proofs.Common.{◌≡◌, ◌⊎◌, inl, inr, ℕ, ◌+◌, ◌<◌, ◌≤◌, nat_lt, Bool, true, false, not, ◌==◌}
use Rattle.std.proofs.Common.{◌||◌, ◌&&◌, if◌then◌else◌, cond, List, [], ◌∷◌, ◌++◌, length, Option, Some}
use Rattle.std.proofs.Common.{None, slice_get, refl, sym, ◌∙◌, ap, suc, zero, arith}
use Rattle.std.proofs.lemmas.Bool.{cases_lt, cases_order, eq-eqb, eqb-true, lt-ltb, ltb-true}
use Rattle.std.proofs.lemmas.Bool.{ne_eqb}
use Rattle.worker_core.specs.declared.order.Due.{Due}
use Rattle.worker_core.specs.declared.slots.Slot.{Slot}
use Rattle.worker_core.specs.Order.{due_at, due_with, order_from, put, put_if}
use Rattle.worker_core.specs.Order.{reseated, stands_before, without}
use Rattle.worker_core.specs.Slots.{changed, free_due}
use Rattle.worker_core.proofs.Lists.{changed_behind}

-- one pod is before the other
abbrev pub Before : Due → Due → Type 0
Before a b = (a.from < b.from) ⊎ ((a.from ≡ b.from) × (a.place < b.place))

pub before_is : (a b : Due) → stands_before a b ≡ true → Before a b
before_is a b h = by_from (nat_lt a.from b.from) refl h where
  by_place : (q : Bool) → (a.from == b.from) ≡ q → (q && nat_lt a.place b.place) ≡ true → Before a b
  by_place true e h = inr (eqb-true a.from b.from e, ltb-true a.place b.place h)
  by_place false e h = absurd cc

  by_from : (l : Bool) → nat_lt a.from b.from ≡ l → (l || (a.from == b.from && nat_lt a.place b.place)) ≡ true
      → Before a b
  by_from true e h = inl (ltb-true a.from b.from e)
  by_from false e h = by_place (a.from == b.from) refl h

pub is_before : (a b : Due) → Before a b → stands_before a b ≡ true
is_before a b (inl l) =
    ap (λ (t : Bool). t || (a.from == b.from && nat_lt a.place b.place)) (lt-ltb a.from b.from l)
is_before a b (inr e) = by_from (nat_lt a.from b.from) where
  by_from : (l : Bool) → (l || (a.from == b.from && nat_lt a.place b.place)) ≡ true
  by_from true = refl
  by_from false = ap (λ (t : Bool). t && nat_lt a.place b.place) (eq-eqb a.from b.from e.0)
      ∙ lt-ltb a.place b.place e.1

not_both : true ≡ false → ⊥
not_both e = absurd cc

-- it is not before the other
pub after_is : (a b : Due) → stands_before a b ≡ false → Before a b → ⊥
after_is a b e h = not_both (sym (is_before a b h) ∙ e)

pub is_after : (a b : Due) → (Before a b → ⊥) → stands_before a b ≡ false
is_after a b never = by_test (stands_before a b) refl where
  by_test : (t : Bool) → stands_before a b ≡ t → t ≡ false
  by_test true e = absurd (never (before_is a b e))
  by_test false e = refl

-- two at different places are in some order
one_before : (a b : Due) → (a.place ≡ b.place → ⊥) → Before a b ⊎ Before b a
one_before a b apart =
    elim (cases_order a.from b.from) [
      | inl same ↦ elim (cases_order a.place b.place) [
        | inl here ↦ absurd (apart here)
        | inr differ ↦ elim differ [
          | inl l ↦ inl (inr (same, l))
          | inr l ↦ inr (inr (sym same, l))
        ]
      ]
      | inr differ ↦ elim differ [ inl l ↦ inl (inl l) | inr l ↦ inr (inl l) ]
    ]

pub not_back : (a b : Due) → Before a b → Before b a → ⊥
not_back a b (inl l) (inl m) = omega (arith, l, m)
not_back a b (inl l) (inr m) = omega (arith, l, m.0)
not_back a b (inr l) (inl m) = omega (arith, l.0, m)
not_back a b (inr l) (inr m) = omega (arith, l.1, m.1)

pub before_before : (a b c : Due) → Before a b → Before b c → Before a c
before_before a b c (inl l) (inl m) = inl (omega (arith, l, m))
before_before a b c (inl l) (inr m) = inl (omega (arith, l, m.0))
before_before a b c (inr l) (inl m) = inl (omega (arith, l.0, m))
before_before a b c (inr l) (inr m) = inr (l.0 ∙ m.0, omega (arith, l.1, m.1))

-- x is before a, and not before b
pub before_through : (x a b : Due) → stands_before x a ≡ true → stands_before x b ≡ false
    → stands_before b a ≡ true
before_through x a b e f = by_test (stands_before b a) refl where
  from_lemma : Before x a → (Before x b → ⊥) → (Before b a → ⊥) → ⊥
  from_lemma (inl l) xb ba =
      elim (cases_lt x.from b.from) [
        | inl m ↦ xb (inl m)
        | inr m ↦ ba (inl (omega (arith, l, m)))
      ]
  from_lemma (inr l) xb ba =
      elim (cases_order x.from b.from) [
        | inl same ↦ elim (cases_lt x.place b.place) [
          | inl m ↦ xb (inr (same, m))
          | inr m ↦ ba (inr (sym same ∙ l.0, omega (arith, l.1, m)))
        ]
        | inr differ ↦ elim differ [
          | inl m ↦ xb (inl m)
          | inr m ↦ ba (inl (omega (arith, l.0, m)))
        ]
      ]

  by_test : (t : Bool) → stands_before b a ≡ t → t ≡ true
  by_test true g = refl
  by_test false g = absurd (from_lemma (before_is x a e) (after_is x b f) (after_is b a g))

-- an entry is put after those before it
pub put_past : (x due : Due) (ds : List Due) → stands_before x due ≡ true → put due (x ∷ ds) ≡ x ∷ put due ds
put_past x due ds e = ap (λ (t : Bool). if t then x ∷ put due ds else due ∷ x ∷ ds) e

pub put_here : (x due : Due) (ds : List Due) → stands_before x due ≡ false → put due (x ∷ ds) ≡ due ∷ x ∷ ds
put_here x due ds e = ap (λ (t : Bool). if t then x ∷ put due ds else due ∷ x ∷ ds) e

-- it does not matter which of two is put first
put_ends : (a b : Due) (ds : List Due) → (a.place ≡ b.place → ⊥)
    → put a (b ∷ []) ≡ put b (a ∷ [])
put_ends a b ds apart =
    elim (one_before a b apart) [
      | inl l ↦ put_here b a [] (is_after b a (not_back a b l)) ∙ sym (put_past a b [] (is_before a b l))
      | inr l ↦ put_past b a [] (is_before b a l) ∙ sym (put_here a b [] (is_after a b (not_back b a l)))
    ]

put_twice : (a b : Due) → (a.place ≡ b.place → ⊥) → (ds : List Due) → put a (put b ds) ≡ put b (put a ds)
put_twice a b apart [] = put_ends a b [] apart
put_twice a b apart (x ∷ ds) = by_test (put_twice a b apart ds) (stands_before x a) refl (stands_before x b)
    refl where
      both_here : stands_before x a ≡ false → stands_before x b ≡ false
          → put a (b ∷ x ∷ ds) ≡ put b (a ∷ x ∷ ds)
      both_here e f =
          elim (one_before a b apart) [
            | inl l ↦ put_here b a (x ∷ ds) (is_after b a (not_back a b l))
                ∙ ap (λ (l : List Due). a ∷ l) (sym (put_here x b ds f))
                ∙ sym (put_past a b (x ∷ ds) (is_before a b l))
            | inr l ↦ put_past b a (x ∷ ds) (is_before b a l)
                ∙ ap (λ (l : List Due). b ∷ l) (put_here x a ds e)
                ∙ sym (put_here a b (x ∷ ds) (is_after a b (not_back b a l)))
          ]

      by_test : put a (put b ds) ≡ put b (put a ds) → (p : Bool) → stands_before x a ≡ p
          → (q : Bool) → stands_before x b ≡ q → put a (put b (x ∷ ds)) ≡ put b (put a (x ∷ ds))
      by_test rest true e true f = ap (put a) (put_past x b ds f) ∙ put_past x a (put b ds) e
          ∙ ap (λ (l : List Due). x ∷ l) rest
          ∙ sym (put_past x b (put a ds) f) ∙ ap (put b) (sym (put_past x a ds e))
      by_test rest true e false f = ap (put a) (put_here x b ds f)
          ∙ put_past b a (x ∷ ds) (before_through x a b e f)
          ∙ ap (λ (l : List Due). b ∷ l) (put_past x a ds e)
          ∙ sym (put_here x b (put a ds) f) ∙ ap (put b) (sym (put_past x a ds e))
      by_test rest false e true f = ap (put a) (put_past x b ds f) ∙ put_here x a (put b ds) e
          ∙ ap (λ (l : List Due). a ∷ l) (sym (put_past x b ds f))
          ∙ sym (put_past a b (x ∷ ds) (before_through x b a f e)) ∙ ap (put b) (sym (put_here x a ds e))
      by_test rest false e false f = ap (put a) (put_here x b ds f) ∙ both_here e f
          ∙ ap (put b) (sym (put_here x a ds e))

-- none of them is before it
abbrev pub Behind : Due → List Due → Type 0
Behind due [] = Unit {0}
Behind due (x ∷ ds) = (stands_before x due ≡ false) × Behind due ds

abbrev pub Sorted : List Due → Type 0
Sorted [] = Unit {0}
Sorted (x ∷ ds) = Behind x ds × Sorted ds

behind_put : (x due : Due) (ds : List Due) → stands_before due x ≡ false → Behind x ds → Behind x (put due ds)
behind_put x due [] e h = (e, tt)
behind_put x due (y ∷ ds) e h = by_test (behind_put x due ds e h.1) (stands_before y due) where
  by_test : Behind x (put due ds) → (t : Bool) → Behind x (if t then y ∷ put due ds else due ∷ y ∷ ds)
  by_test rest true = (h.0, rest)
  by_test rest false = (e, h)

-- if x is not before it, and none of these is before x, none of them is before it
behind_behind : (due x : Due) (ds : List Due) → stands_before x due ≡ false → Behind x ds → Behind due ds
behind_behind due x [] e h = tt
behind_behind due x (y ∷ ds) e h = (
  is_after y due (λ l. after_is y x h.0 (before_is y x (before_through_too l))),
  behind_behind due x ds e h.1,
) where
  before_through_too : Before y due → stands_before y x ≡ true
  before_through_too l = by_test (stands_before y x) refl where
    by_test : (t : Bool) → stands_before y x ≡ t → t ≡ true
    by_test true g = refl
    by_test false g = absurd (not_both (sym (before_through y due x (is_before y due l) g) ∙ e))

sorted_put : (due : Due) (ds : List Due) → Sorted ds → Sorted (put due ds)
sorted_put due [] s = (tt, tt)
sorted_put due (x ∷ ds) s = by_test (sorted_put due ds s.1) (stands_before x due) refl where
  by_test : Sorted (put due ds) → (t : Bool) → stands_before x due ≡ t
      → Sorted (if t then x ∷ put due ds else due ∷ x ∷ ds)
  by_test rest true e =
      (behind_put x due ds (is_after due x (not_back x due (before_is x due e))) s.0, rest)
  by_test rest false e = ((e, behind_behind due x ds e s.0), s)

put_first : (due : Due) (ds : List Due) → Behind due ds → put due ds ≡ due ∷ ds
put_first due [] h = refl
put_first due (x ∷ ds) h = put_here x due ds h.0

behind_without : (due : Due) (p : ℕ) (ds : List Due) → Behind due ds → Behind due (without p ds)
behind_without due p [] h = tt
behind_without due p (x ∷ ds) h = by_test (behind_without due p ds h.1) (not (x.place == p)) where
  by_test : Behind due (without p ds) → (t : Bool) → Behind due (cond t (x ∷ without p ds) (without p ds))
  by_test rest true = (h.0, rest)
  by_test rest false = rest

-- what is taken out
pub stays : (p : ℕ) (x : Due) (ds : List Due) → (x.place ≡ p → ⊥) → without p (x ∷ ds) ≡ x ∷ without p ds
stays p x ds apart =
    ap (λ (t : Bool). cond (not t) (x ∷ without p ds) (without p ds)) (ne_eqb x.place p apart)

goes : (p : ℕ) (x : Due) (ds : List Due) → x.place ≡ p → without p (x ∷ ds) ≡ without p ds
goes p x ds e = ap (λ (t : Bool). cond (not t) (x ∷ without p ds) (without p ds)) (eq-eqb x.place p e)

put_then_out : (p : ℕ) (due : Due) → due.place ≡ p → (ds : List Due)
    → without p (put due ds) ≡ without p ds
put_then_out p due e [] = goes p due [] e
put_then_out p due e (x ∷ ds) = by_test (put_then_out p due e ds) (stands_before x due) where
  by_test : without p (put due ds) ≡ without p ds → (t : Bool)
      → without p (if t then x ∷ put due ds else due ∷ x ∷ ds) ≡ without p (x ∷ ds)
  by_test rest true = ap (λ (l : List Due). cond (not (x.place == p)) (x ∷ l) l) rest
  by_test rest false = goes p due (x ∷ ds) e

out_then_put : (p : ℕ) (due : Due) → (due.place ≡ p → ⊥) → (ds : List Due) → Sorted ds
    → without p (put due ds) ≡ put due (without p ds)
out_then_put p due apart [] s = stays p due [] apart
out_then_put p due apart (x ∷ ds) s = by_test (out_then_put p due apart ds s.1) (stands_before x due) refl
  where
    past : stands_before x due ≡ true → (q : Bool)
        → cond q (x ∷ put due (without p ds)) (put due (without p ds))
        ≡ put due (cond q (x ∷ without p ds) (without p ds))
    past e true = sym (put_past x due (without p ds) e)
    past e false = refl

    by_test : without p (put due ds) ≡ put due (without p ds) → (t : Bool) → stands_before x due ≡ t
        → without p (if t then x ∷ put due ds else due ∷ x ∷ ds) ≡ put due (without p (x ∷ ds))
    by_test rest true e = ap (λ (l : List Due). cond (not (x.place == p)) (x ∷ l) l) rest
        ∙ past e (not (x.place == p))
    by_test rest false e = stays p due (x ∷ ds) apart
        ∙ sym (put_first due (without p (x ∷ ds)) (behind_without due p (x ∷ ds)
        (e, behind_behind due x ds e s.0)))

-- the same for what is due for a pod
sorted_put_if : (place : ℕ) (slot : Slot) (ds : List Due) → Sorted ds → Sorted (put_if (due_at place slot) ds)
sorted_put_if place slot ds s = by_due (free_due slot) where
  by_due : (o : Option ℕ) → Sorted (put_if (due_with place slot.state.worked o) ds)
  by_due None = s
  by_due (Some from) = sorted_put (record { place = place; from = from; worked = slot.state.worked }) ds s

pub sorted_order : (at : ℕ) (slots : List Slot) → Sorted (order_from at slots)
sorted_order at [] = tt
sorted_order at (s ∷ ss) = sorted_put_if at s (order_from (at + 1) ss) (sorted_order (at + 1) ss)

put_if_then_out : (p : ℕ) (slot : Slot) (ds : List Due)
    → without p (put_if (due_at p slot) ds) ≡ without p ds
put_if_then_out p slot ds = by_due (free_due slot) where
  by_due : (o : Option ℕ) → without p (put_if (due_with p slot.state.worked o) ds) ≡ without p ds
  by_due None = refl
  by_due (Some from) = put_then_out p (record { place = p; from = from; worked = slot.state.worked }) refl ds

pub out_then_put_if : (p place : ℕ) (slot : Slot) → (place ≡ p → ⊥) → (ds : List Due) → Sorted ds
    → without p (put_if (due_at place slot) ds) ≡ put_if (due_at place slot) (without p ds)
out_then_put_if p place slot apart ds s = by_due (free_due slot) where
  by_due : (o : Option ℕ) → without p (put_if (due_with place slot.state.worked o) ds)
      ≡ put_if (due_with place slot.state.worked o) (without p ds)
  by_due None = refl
  by_due (Some from) = out_then_put p (record { place = place; from = from; worked = slot.state.worked })
      apart ds s

put_if_twice : (p place : ℕ) (new slot : Slot) → (place ≡ p → ⊥) → (ds : List Due)
    → put_if (due_at place slot) (put_if (due_at p new) ds)
    ≡ put_if (due_at p new) (put_if (due_at place slot) ds)
put_if_twice p place new slot apart ds = by_due (free_due slot) (free_due new) where
  by_due : (o n : Option ℕ) → put_if (due_with place slot.state.worked o) (put_if (due_with p
      new.state.worked n) ds)
      ≡ put_if (due_with p new.state.worked n) (put_if (due_with place slot.state.worked o) ds)
  by_due None n = refl
  by_due (Some from) None = refl
  by_due (Some from) (Some to) = put_twice (record {
    place = place;
    from = from;
    worked = slot.state.worked;
  }) (record { place = p; from = to; worked = new.state.worked }) apart ds

-- none of them is at a place before this one
abbrev pub AllFrom : ℕ → List Due → Type 0
AllFrom at [] = Unit {0}
AllFrom at (x ∷ ds) = (at ≤ x.place) × AllFrom at ds

from_put : (at : ℕ) (due : Due) (ds : List Due) → at ≤ due.place → AllFrom at ds → AllFrom at (put due ds)
from_put at due [] l h = (l, tt)
from_put at due (x ∷ ds) l h = by_test (from_put at due ds l h.1) (stands_before x due) where
  by_test : AllFrom at (put due ds) → (t : Bool) → AllFrom at (if t then x ∷ put due ds else due ∷ x ∷ ds)
  by_test rest true = (h.0, rest)
  by_test rest false = (l, h)

from_earlier : (at before : ℕ) → before ≤ at → (ds : List Due) → AllFrom at ds → AllFrom before ds
from_earlier at before l [] h = tt
from_earlier at before l (x ∷ ds) h = (omega (arith, l, h.0), from_earlier at before l ds h.1)

pub from_order : (at : ℕ) (slots : List Slot) → AllFrom at (order_from at slots)
from_order at [] = tt
from_order at (s ∷ ss) =
    by_due (from_earlier (at + 1) at (omega arith) (order_from (at + 1) ss) (from_order (at + 1) ss))
    (free_due s) where
      by_due : AllFrom at (order_from (at + 1) ss) → (o : Option ℕ)
          → AllFrom at (put_if (due_with at s.state.worked o) (order_from (at + 1) ss))
      by_due rest None = rest
      by_due rest (Some from) = from_put at (record { place = at; from = from; worked = s.state.worked })
          (order_from (at + 1) ss) (omega arith) rest

none_out : (p at : ℕ) → p < at → (ds : List Due) → AllFrom at ds → without p ds ≡ ds
none_out p at l [] h = refl
none_out p at l (x ∷ ds) h = stays p x ds (λ e. omega (arith, e, l, h.0))
    ∙ ap (λ (l : List Due). x ∷ l) (none_out p at l ds h.1)

-- the order of the rest, once the first pod is out
pub out_first : (at : ℕ) (slot : Slot) (ss : List Slot)
    → without at (put_if (due_at at slot) (order_from (at + 1) ss)) ≡ order_from (at + 1) ss
out_first at slot ss = put_if_then_out at slot (order_from (at + 1) ss)
    ∙ none_out at (at + 1) (omega arith) (order_from (at + 1) ss) (from_order (at + 1) ss)

-- a pod after another is reseated
behind_reseated : (at p : ℕ) (first new : Slot) (ds : List Due) → at < p → Sorted ds
    → put_if (due_at at first) (reseated p new ds) ≡ reseated p new (put_if (due_at at first) ds)
behind_reseated at p first new ds l s =
    put_if_twice p at new first (λ e. omega (arith, e, l)) (without p ds)
    ∙ ap (put_if (due_at p new)) (sym (out_then_put_if p at first (λ e. omega (arith, e, l)) ds s))

-- one of the pods changes
pub order_changed : (f : Slot → Slot) (ss : List Slot) (at i p : ℕ) (slot : Slot) → p ≡ at + i
    → slice_get ss i ≡ Some slot
    → order_from at (changed f ss i) ≡ reseated p (f slot) (order_from at ss)
order_changed f [] at i p slot e here = absurd cc
order_changed f (x ∷ ss) at zero p slot e here =
    let same : x ≡ slot = cc in
    let is : p ≡ at = omega (arith, e) in
    sym (ap (λ (q : ℕ). reseated q (f slot) (order_from at (x ∷ ss))) is
    ∙ ap (put_if (due_at at (f slot))) (out_first at x ss)
    ∙ ap (λ (s : Slot). order_from at (f s ∷ ss)) (sym same))
order_changed f (x ∷ ss) at (suc i) p slot e here =
    ap (order_from at) (changed_behind f x ss i (slice_get ss i))
    ∙ ap (put_if (due_at at x)) (order_changed f ss (at + 1) i p slot (omega (arith, e)) here)
    ∙ behind_reseated at p x (f slot) (order_from (at + 1) ss) (omega (arith, e)) (sorted_order (at + 1) ss)

-- another one is added after them
pub order_pushed : (slot : Slot) (ss : List Slot) (at p : ℕ) → p ≡ at + length ss
    → order_from at (ss ++ slot ∷ []) ≡ reseated p slot (order_from at ss)
order_pushed slot [] at p e =
    let is : at ≡ p = omega (arith, e) in
    ap (λ (q : ℕ). put_if (due_at q slot) []) is
order_pushed slot (x ∷ ss) at p e =
    ap (put_if (due_at at x)) (order_pushed slot ss (at + 1) p (omega (arith, e)))
    ∙ behind_reseated at p x slot (order_from (at + 1) ss) (omega (arith, e)) (sorted_order (at + 1) ss)
