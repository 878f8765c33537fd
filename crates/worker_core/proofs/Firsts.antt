-- The first of the order are the pod that waited longest, and the soonest moment.
use Rattle.std.proofs.Common.{◌≡◌, inl, inr, ℕ, ◌+◌, ◌<◌, ◌≤◌, nat_le, nat_lt, min, max, Bool, true, false}
use Rattle.std.proofs.Common.{◌==◌, ◌&&◌, ◌||◌, if◌then◌else◌, List, [], ◌∷◌, Option, Some, None, refl, sym}
use Rattle.std.proofs.Common.{◌∙◌, ap}
use Rattle.std.proofs.Common.{arith}
use Rattle.std.proofs.lemmas.Bool.{cases_lt, cases_order, leb-false, leb-true}
use Rattle.std.proofs.lemmas.Bool.{ltb-true}
use Rattle.worker_core.specs.declared.order.Due.{Due}
use Rattle.worker_core.specs.declared.slots.Slot.{Slot}
use Rattle.worker_core.specs.declared.turns.Turn.{Turn}
use Rattle.worker_core.specs.Order.{due_with, first_moment, first_turn, order_from, order_of}
use Rattle.worker_core.specs.Order.{prefer, put, put_if, stands_before, turn_of}
use Rattle.worker_core.specs.Slots.{free_due}
use Rattle.worker_core.specs.Turns.{better, is_longer, longest, longest_from, sooner, soonest, soonest_from}
use Rattle.worker_pod.specs.Next.{has_come}
use Rattle.worker_core.proofs.Longest.{placed_before}
use Rattle.worker_core.proofs.Orders.{Before, after_is, before_before, before_is, before_through, is_after}
use Rattle.worker_core.proofs.Orders.{is_before, not_back}

-- the soonest moment
abbrev sooner_than : Option ℕ → Option ℕ → Option ℕ
sooner_than best None = best
sooner_than None (Some m) = Some m
sooner_than (Some b) (Some m) = Some (min b m)

moment_put : (now : ℕ) (due : Due) (ds : List Due)
    → (best : Option ℕ) → sooner_than (sooner now best (Some due.from)) (first_moment now ds)
    ≡ sooner_than best (first_moment now (put due ds))
moment_put now due [] None = refl
moment_put now due [] (Some b) = refl
moment_put now due (x ∷ ds) best = by_test (stands_before x due) refl best where
  not_sooner : stands_before x due ≡ false → due.from ≤ x.from
  not_sooner e =
      elim (cases_lt x.from due.from) [
        | inl l ↦ absurd (after_is x due e (inl l))
        | inr l ↦ l
      ]

  no_later : stands_before x due ≡ true → x.from ≤ due.from
  no_later e = by_case (before_is x due e) where
    by_case : Before x due → x.from ≤ due.from
    by_case (inl l) = omega (arith, l)
    by_case (inr h) = omega (arith, h.0)

  by_test : (t : Bool) → stands_before x due ≡ t → (best : Option ℕ)
      → sooner_than (sooner now best (Some due.from)) (Some (max x.from now))
      ≡ sooner_than best (first_moment now (if t then x ∷ put due ds else due ∷ x ∷ ds))
  by_test true e None = ap Some (omega (arith, no_later e))
  by_test true e (Some b) = ap Some (omega (arith, no_later e))
  by_test false e None = ap Some (omega (arith, not_sooner e))
  by_test false e (Some b) = ap Some (omega (arith, not_sooner e))

soonest_is : (now at : ℕ) (slots : List Slot) (best : Option ℕ)
    → soonest_from now best slots ≡ sooner_than best (first_moment now (order_from at slots))
soonest_is now at [] best = refl
soonest_is now at (s ∷ ss) best =
    soonest_is now (at + 1) ss (sooner now best (free_due s)) ∙ by_due (free_due s)
  where
    by_due : (o : Option ℕ) → sooner_than (sooner now best o) (first_moment now (order_from (at + 1) ss))
        ≡ sooner_than best (first_moment now (put_if (due_with at s.state.worked o) (order_from (at + 1) ss)))
    by_due None = refl
    by_due (Some from) = moment_put now (record { place = at; from = from; worked = s.state.worked })
        (order_from (at + 1) ss) best

pub first_moment_is : (now : ℕ) (slots : List Slot) (ds : List Due) → ds ≡ order_of slots
    → first_moment now ds ≡ soonest now slots
first_moment_is now slots ds e = ap (first_moment now) e ∙ none_else (first_moment now (order_of slots))
    ∙ sym (soonest_is now 0 slots None)
  where
    none_else : (o : Option ℕ) → o ≡ sooner_than None o
    none_else None = refl
    none_else (Some m) = refl

-- the pod that waited longest. It is before the others in the order of the numbers of their claims
abbrev as_due : Turn → Due
as_due turn = record { place = turn.place; from = turn.worked; worked = turn.worked }

abbrev of_two : Turn → Turn → Turn
of_two best turn = if stands_before (as_due turn) (as_due best) then turn else best

of_first : (best turn : Turn) → stands_before (as_due turn) (as_due best) ≡ false → of_two best turn ≡ best
of_first best turn e = ap (λ (t : Bool). if t then turn else best) e

of_last : (best turn : Turn) → stands_before (as_due turn) (as_due best) ≡ true → of_two best turn ≡ turn
of_last best turn e = ap (λ (t : Bool). if t then turn else best) e

-- neither is before the other
one_turn : (a b : Turn) → (Before (as_due a) (as_due b) → ⊥) → (Before (as_due b) (as_due a) → ⊥) → a ≡ b
one_turn a b ab ba =
    elim (cases_order a.worked b.worked) [
      | inl same ↦ elim (cases_order a.place b.place) [
        | inl here ↦ λ i. record { place = here i; worked = same i }
        | inr differ ↦ elim differ [
          | inl l ↦ absurd (ab (inr (same, l)))
          | inr l ↦ absurd (ba (inr (sym same, l)))
        ]
      ]
      | inr differ ↦ elim differ [ inl l ↦ absurd (ab (inl l)) | inr l ↦ absurd (ba (inl l)) ]
    ]

either_way : (a b : Turn) → of_two a b ≡ of_two b a
either_way a b = by_test (stands_before (as_due b) (as_due a)) refl (stands_before (as_due a) (as_due b)) refl
  where
    by_test : (p : Bool) → stands_before (as_due b) (as_due a) ≡ p
        → (q : Bool) → stands_before (as_due a) (as_due b) ≡ q → of_two a b ≡ of_two b a
    by_test true e true f = absurd (not_back (as_due a) (as_due b) (before_is (as_due a) (as_due b) f)
        (before_is (as_due b) (as_due a) e))
    by_test true e false f = of_last a b e ∙ sym (of_first b a f)
    by_test false e true f = of_first a b e ∙ sym (of_last b a f)
    by_test false e false f = of_first a b e
        ∙ one_turn a b (after_is (as_due a) (as_due b) f) (after_is (as_due b) (as_due a) e)
        ∙ sym (of_first b a f)

of_three : (a b c : Turn) → of_two (of_two a b) c ≡ of_two a (of_two b c)
of_three a b c = by_test (stands_before (as_due b) (as_due a)) refl (stands_before (as_due c) (as_due b)) refl
  where
    none_left : stands_before (as_due b) (as_due a) ≡ false → stands_before (as_due c) (as_due b) ≡ false
        → stands_before (as_due c) (as_due a) ≡ false
    none_left e f = is_after (as_due c) (as_due a) (λ l. after_is (as_due c) (as_due b) f
        (before_is (as_due c) (as_due b)
        (through l (stands_before (as_due c) (as_due b)) refl)))
      where
        through : Before (as_due c) (as_due a) → (t : Bool) → stands_before (as_due c) (as_due b) ≡ t
            → stands_before (as_due c) (as_due b) ≡ true
        through l true g = g
        through l false g = absurd (after_is (as_due b) (as_due a) e (before_is (as_due b) (as_due a)
            (before_through (as_due c) (as_due a) (as_due b)
            (is_before (as_due c) (as_due a) l) g)))

    by_test : (p : Bool) → stands_before (as_due b) (as_due a) ≡ p
        → (q : Bool) → stands_before (as_due c) (as_due b) ≡ q
        → of_two (of_two a b) c ≡ of_two a (of_two b c)
    by_test true e true f = ap (λ (t : Turn). of_two t c) (of_last a b e) ∙ of_last b c f
        ∙ sym (of_last a c (is_before (as_due c) (as_due a) (before_before (as_due c) (as_due b) (as_due a)
        (before_is (as_due c) (as_due b) f) (before_is (as_due b) (as_due a) e))))
        ∙ ap (of_two a) (sym (of_last b c f))
    by_test true e false f = ap (λ (t : Turn). of_two t c) (of_last a b e) ∙ of_first b c f
        ∙ sym (of_last a b e) ∙ ap (of_two a) (sym (of_first b c f))
    by_test false e true f = ap (λ (t : Turn). of_two t c) (of_first a b e)
        ∙ ap (of_two a) (sym (of_last b c f))
    by_test false e false f = ap (λ (t : Turn). of_two t c) (of_first a b e)
        ∙ of_first a c (none_left e f) ∙ sym (of_first a b e) ∙ ap (of_two a) (sym (of_first b c f))

-- it does not matter which of two is looked at first
prefer_twice : (best : Option Turn) (x due : Due) → prefer (Some (prefer best x)) due
    ≡ prefer (Some (prefer best due)) x
prefer_twice None x due = either_way (turn_of x) (turn_of due)
prefer_twice (Some b) x due = of_three b (turn_of x) (turn_of due)
    ∙ ap (of_two b) (either_way (turn_of x) (turn_of due)) ∙ sym (of_three b (turn_of due) (turn_of x))

has_to : (a b : ℕ) → a ≤ b → nat_le a b ≡ true
has_to a b l = by_test (nat_le a b) refl where
  by_test : (t : Bool) → nat_le a b ≡ t → t ≡ true
  by_test true e = refl
  by_test false e = absurd (omega (arith, leb-false a b e, l))

has_not : (a b : ℕ) → b < a → nat_le a b ≡ false
has_not a b l = by_test (nat_le a b) refl where
  by_test : (t : Bool) → nat_le a b ≡ t → t ≡ false
  by_test true e = absurd (omega (arith, leb-true a b e, l))
  by_test false e = refl

no_later : (x due : Due) → stands_before x due ≡ true → x.from ≤ due.from
no_later x due e = by_case (before_is x due e) where
  by_case : Before x due → x.from ≤ due.from
  by_case (inl l) = omega (arith, l)
  by_case (inr h) = omega (arith, h.0)

not_sooner : (x due : Due) → stands_before x due ≡ false → due.from ≤ x.from
not_sooner x due e =
    elim (cases_lt x.from due.from) [
      | inl l ↦ absurd (after_is x due e (inl l))
      | inr l ↦ l
    ]

module _ (now : ℕ) where
  first_come : (x : Due) (best : Option Turn) (ds : List Due) → nat_le x.from now ≡ true
      → first_turn now best (x ∷ ds) ≡ first_turn now (Some (prefer best x)) ds
  first_come x best ds e = ap (λ (t : Bool). if t then first_turn now (Some (prefer best x)) ds else best) e

  first_not : (x : Due) (best : Option Turn) (ds : List Due) → nat_le x.from now ≡ false
      → first_turn now best (x ∷ ds) ≡ best
  first_not x best ds e = ap (λ (t : Bool). if t then first_turn now (Some (prefer best x)) ds else best) e

  -- a pod that is due counts, wherever it is in the order
  due_counts : (due : Due) → nat_le due.from now ≡ true → (ds : List Due) (best : Option Turn)
      → first_turn now best (put due ds) ≡ first_turn now (Some (prefer best due)) ds
  due_counts due v [] best = first_come due best [] v
  due_counts due v (x ∷ ds) best = by_test (due_counts due v ds) (stands_before x due) refl where
    by_test : ((b : Option Turn) → first_turn now b (put due ds) ≡ first_turn now (Some (prefer b due)) ds)
        → (t : Bool) → stands_before x due ≡ t
        → first_turn now best (if t then x ∷ put due ds else due ∷ x ∷ ds)
        ≡ first_turn now (Some (prefer best due)) (x ∷ ds)
    by_test rest true e =
        let u : nat_le x.from now ≡ true =
        has_to x.from now (omega (arith, no_later x due e, leb-true due.from now v)) in
        first_come x best (put due ds) u ∙ rest (Some (prefer best x))
        ∙ ap (λ (b : Turn). first_turn now (Some b) ds) (prefer_twice best x due)
        ∙ sym (first_come x (Some (prefer best due)) ds u)
    by_test rest false e = first_come due best (x ∷ ds) v

  -- and one that is not due does not
  late_counts_not : (due : Due) → nat_le due.from now ≡ false → (ds : List Due) (best : Option Turn)
      → first_turn now best (put due ds) ≡ first_turn now best ds
  late_counts_not due v [] best = first_not due best [] v
  late_counts_not due v (x ∷ ds) best =
      by_test (late_counts_not due v ds) (stands_before x due) refl (nat_le x.from now) refl where
        by_test : ((b : Option Turn) → first_turn now b (put due ds) ≡ first_turn now b ds)
            → (t : Bool) → stands_before x due ≡ t → (u : Bool) → nat_le x.from now ≡ u
            → first_turn now best (if t then x ∷ put due ds else due ∷ x ∷ ds) ≡ first_turn now best (x ∷ ds)
        by_test rest true e true u = first_come x best (put due ds) u ∙ rest (Some (prefer best x))
            ∙ sym (first_come x best ds u)
        by_test rest true e false u = first_not x best (put due ds) u ∙ sym (first_not x best ds u)
        by_test rest false e t u = first_not due best (x ∷ ds) v
            ∙ sym (first_not x best ds (has_not x.from now
            (omega (arith, not_sooner x due e, leb-false due.from now v))))

  -- pod by pod
  longest_is : (slots : List Slot) (at : ℕ) (best : Option Turn)
      → ((b : Turn) → best ≡ Some b → b.place < at)
      → longest_from now at best slots ≡ first_turn now best (order_from at slots)
  longest_is [] at best before = refl
  longest_is (s ∷ ss) at best before =
      longest_is ss (at + 1) (better now best at s) (placed_before now at best s before) ∙ by_due (free_due s)
    where
      here : Turn
      here = record { place = at; worked = s.state.worked }

      due : ℕ → Due
      due from = record { place = at; from = from; worked = s.state.worked }

      rest : List Due
      rest = order_from (at + 1) ss

      preferred : (from : ℕ) (o : Option Turn) → best ≡ o
          → ◌≡◌ {A = Option Turn} (if is_longer o s.state.worked then Some here else o)
          (Some (prefer o (due from)))
      preferred from None e = refl
      preferred from (Some b) e = by_worked (nat_lt s.state.worked b.worked) where
        by_worked : (l : Bool) → ◌≡◌ {A = Option Turn} (if l then Some here else Some b)
            (Some (if l || (s.state.worked == b.worked && nat_lt at b.place) then here else b))
        by_worked true = refl
        by_worked false = by_place (s.state.worked == b.worked) (nat_lt at b.place) refl where
          by_place : (q r : Bool) → nat_lt at b.place ≡ r
              → ◌≡◌ {A = Option Turn} (Some b) (Some (if q && r then here else b))
          by_place true true f = absurd (omega (arith, before b e, ltb-true at b.place f))
          by_place true false f = refl
          by_place false r f = refl

      by_come : (from : ℕ) (v : Bool) → nat_le from now ≡ v
          → first_turn now (if v && is_longer best s.state.worked then Some here else best) rest
          ≡ first_turn now best (put (due from) rest)
      by_come from true v = ap (λ (o : Option Turn). first_turn now o rest) (preferred from best refl)
          ∙ sym (due_counts (due from) v rest best)
      by_come from false v = sym (late_counts_not (due from) v rest best)

      by_due : (o : Option ℕ)
          → first_turn now (if has_come o now && is_longer best s.state.worked then Some here else best) rest
          ≡ first_turn now best (put_if (due_with at s.state.worked o) rest)
      by_due None = refl
      by_due (Some from) = by_come from (nat_le from now) refl

pub first_turn_is : (now : ℕ) (slots : List Slot) (ds : List Due) → ds ≡ order_of slots
    → first_turn now None ds ≡ longest now slots
first_turn_is now slots ds e = ap (first_turn now None) e
    ∙ sym (longest_is now slots 0 None (λ b none. absurd cc))
