-- The soonest moment is the least one at which a request is due.
use Rattle.std.proofs.Common.{◌≡◌, ◌⊎◌, inl, inr, ℕ, ◌≤◌, nat_le, min, max, true, false, if◌then◌else◌, List}
use Rattle.std.proofs.Common.{[], ◌∷◌, Option, Some, None, slice_get, refl, sym, ◌∙◌, ap, suc, zero, arith}
use Rattle.std.proofs.lemmas.Bool.{leb-true, leb-false}
use Rattle.std.proofs.lemmas.Option.{slice_get-map}
use Rattle.std.specs.Option.{is_some, option_map}
use Rattle.cri_msgs.specs.declared.calls.Call.{Call}
use Rattle.worker_pod.specs.declared.settings.Settings.{Settings}
use Rattle.worker_pod.specs.Next.{due_of, has_come, next_of}
use Rattle.worker_pod.specs.Past.{Past, held_of}
use Rattle.worker_core.specs.declared.slots.Held.{Held}
use Rattle.worker_core.specs.declared.slots.Slot.{Slot}
use Rattle.worker_core.specs.Kept.{KeptNode}
use Rattle.worker_core.specs.Nodes.{IsDueAt, IsNextDue, NodeState, OnNode, StandsFor, slot_of, slots_of}
use Rattle.worker_core.specs.Slots.{free_due, is_free}
use Rattle.worker_core.specs.Turns.{sooner, soonest, soonest_from}

record AtMost (o : Option ℕ) (n : ℕ) : Type 0 where
  m : ℕ
  is : o ≡ Some m
  le : m ≤ n

best_stays : (now : ℕ) (best due : Option ℕ) (n : ℕ) → AtMost best n → AtMost (sooner now best due) n
best_stays now None None n h = h
best_stays now None (Some d) n h = let differ : ◌≡◌ {A = Option ℕ} None (Some h.m) = h.is in absurd cc
best_stays now (Some x) None n h = h
best_stays now (Some x) (Some d) n h =
    let same : x ≡ h.m = cc (h.is) in
    record { m = min x (max d now); is = refl; le = omega (arith, same, h.le) }

new_counts : (now : ℕ) (best due : Option ℕ) (d n : ℕ) → due ≡ Some d → max d now ≤ n
    → AtMost (sooner now best due) n
new_counts now best None d n e l = absurd cc
new_counts now None (Some x) d n e l = let same : x ≡ d = cc in
    record { m = max x now; is = refl; le = omega (arith, same, l) }
new_counts now (Some b) (Some x) d n e l = let same : x ≡ d = cc in
    record { m = min b (max x now); is = refl; le = omega (arith, same, l) }

at_most_from : (now : ℕ) (slots : List Slot) (best : Option ℕ) (n : ℕ) → AtMost best n
    → AtMost (soonest_from now best slots) n
at_most_from now [] best n h = h
at_most_from now (s ∷ ss) best n h = at_most_from now ss (sooner now best (free_due s)) n
    (best_stays now best (free_due s) n h)

each_counts : (now : ℕ) (slots : List Slot) (best : Option ℕ) (place : ℕ) (slot : Slot) (d n : ℕ)
    → slice_get slots place ≡ Some slot → free_due slot ≡ Some d → max d now ≤ n
    → AtMost (soonest_from now best slots) n
each_counts now [] best place slot d n here e l = absurd cc
each_counts now (s ∷ ss) best zero slot d n here e l =
    let same : s ≡ slot = cc in
    at_most_from now ss (sooner now best (free_due s)) n
    (new_counts now best (free_due s) d n (ap free_due same ∙ e) l)
each_counts now (s ∷ ss) best (suc place) slot d n here e l =
    each_counts now ss (sooner now best (free_due s)) place slot d n here e l

record Source (now : ℕ) (slots : List Slot) (m : ℕ) : Type 0 where
  place : ℕ
  slot : Slot
  d : ℕ
  here : slice_get slots place ≡ Some slot
  due : free_due slot ≡ Some d
  is : m ≡ max d now

one_of : (now : ℕ) (best due : Option ℕ) (m : ℕ) → sooner now best due ≡ Some m
    → (best ≡ Some m) ⊎ ((d : ℕ) × (due ≡ Some d) × (m ≡ max d now))
one_of now best None m e = inl e
one_of now None (Some d) m e = inr (d, refl, cc)
one_of now (Some b) (Some d) m e =
    let is : min b (max d now) ≡ m = cc in
    elim (nat_le b (max d now)) as (λ t. nat_le b (max d now) ≡ t
    → (◌≡◌ {A = Option ℕ} (Some b) (Some m)) ⊎ ((x : ℕ) × (◌≡◌ {A = Option ℕ} (Some d) (Some x))
    × (m ≡ max x now))) [
      | true ↦ λ t. let l : b ≤ max d now = leb-true b (max d now) t in let same : b ≡ m =
          omega (arith, l, is) in inl (ap Some same)
      | false ↦ λ t. let l : max d now ≤ b = omega (arith, leb-false b (max d now) t) in
          inr (d, refl, omega (arith, l, is))
    ] refl

from_where : (now : ℕ) (slots : List Slot) (best : Option ℕ) (m : ℕ) → soonest_from now best slots ≡ Some m
    → (best ≡ Some m) ⊎ Source now slots m
from_where now [] best m e = inl e
from_where now (s ∷ ss) best m e =
    elim (from_where now ss (sooner now best (free_due s)) m e) [
      | inl h ↦ elim (one_of now best (free_due s) m h) [
        | inl same ↦ inl same
        | inr found ↦ inr (record {
          place = 0;
          slot = s;
          d = found.0;
          here = refl;
          due = found.1;
          is =
              found.2;
        })
      ]
      | inr src ↦ inr (record {
        place = suc src.place;
        slot = src.slot;
        d = src.d;
        here = src.here;
        due =
            src.due;
        is = src.is;
      })
    ]

-- a pod that nobody holds is due from its own moment
free_due_of : (slot : Slot) → slot.held ≡ None → free_due slot ≡ due_of slot.state
free_due_of slot e = ap (λ (h : Option Held). if is_free h then due_of slot.state else None) e

due_free : (slot : Slot) (held : Option Held) → slot.held ≡ held → (d : ℕ)
    → (if is_free held then due_of slot.state else None) ≡ Some d → (slot.held ≡ None)
    × (due_of slot.state ≡ Some d)
due_free slot None is d e = (is, e)
due_free slot (Some held) is d e = absurd cc

come_is : (o : Option ℕ) (t : ℕ) → has_come o t ≡ true → (d : ℕ) × (o ≡ Some d) × (d ≤ t)
come_is None t e = absurd cc
come_is (Some d) t e = (d, refl, leb-true d t e)

is_come : (d t : ℕ) → d ≤ t → has_come (Some d) t ≡ true
is_come d t l = elim (nat_le d t) as (λ b. nat_le d t ≡ b → b ≡ true) [
  | true ↦ λ e. refl
  | false ↦ λ e.
      absurd (omega (arith, leb-false d t e, l))
] refl

some_is : {X : Type 0} (o : Option X) → is_some o ≡ true → (x : X) × (o ≡ Some x)
some_is None e = absurd cc
some_is (Some x) e = (x, refl)

got : {A B : Type 0} (g : A → B) (o : Option A) (y : B) → option_map g o ≡ Some y → (x : A) × (o ≡ Some x)
    × (g x ≡ y)
got g None y e = absurd cc
got g (Some x) y e = (x, refl, cc)

module _ (law : (settings : Settings) (past : Past) (now : ℕ) → is_some (next_of (held_of settings past) now)
    ≡ has_come (due_of (held_of settings past)) now) where
  -- what is due counts
  counts : (node : NodeState) (moment : ℕ) → node.moment ≤ moment → IsDueAt node moment
      → AtMost (soonest node.moment (slots_of node)) moment
  counts node moment from due =
      let there : slice_get (slots_of node) due.place ≡ Some (slot_of node.settings due.waiting) =
      slice_get-map (slot_of node.settings) node.pods due.place
      ∙ ap (option_map (slot_of node.settings)) due.here in
      let come : has_come (due_of (held_of node.settings due.waiting.past)) moment ≡ true =
      sym (law node.settings due.waiting.past moment) ∙ ap is_some due.due in
      let found : (d : ℕ) × (due_of (held_of node.settings due.waiting.past) ≡ Some d) × (d ≤ moment) =
      come_is (due_of (held_of node.settings due.waiting.past)) moment come in
      each_counts node.moment (slots_of node) None due.place (slot_of node.settings due.waiting) found.0
      moment there
      (free_due_of (slot_of node.settings due.waiting) due.free ∙ found.1) (omega (arith, found.2, from))

  -- and what counts is due
  due_from : (node : NodeState) (m : ℕ) → Source node.moment (slots_of node) m → IsDueAt node m
  due_from node m src =
      let at : (p : OnNode) × (slice_get node.pods src.place ≡ Some p)
      × (slot_of node.settings p ≡ src.slot) =
      got (slot_of node.settings) (slice_get node.pods src.place) src.slot
      (sym (slice_get-map (slot_of node.settings) node.pods src.place) ∙ src.here) in
      let free : (src.slot.held ≡ None) × (due_of src.slot.state ≡ Some src.d) =
      due_free src.slot src.slot.held refl src.d src.due in
      let come : has_come (due_of (held_of node.settings at.0.past)) m ≡ true =
      ap (λ (s : Slot). has_come (due_of s.state) m) at.2 ∙ ap (λ (o : Option ℕ). has_come o m) free.1
      ∙ is_come src.d m (omega (arith, src.is)) in
      let found : (call : Call) × (next_of (held_of node.settings at.0.past) m ≡ Some call) =
      some_is (next_of (held_of node.settings at.0.past) m) (law node.settings at.0.past m ∙ come) in
      record {
        place = src.place;
        waiting = at.0;
        here = at.1;
        free = ap (λ (s : Slot). s.held) at.2 ∙ free.0;
        call = found.0;
        due = found.1;
      }

  by_answer : (node : NodeState) (o : Option ℕ) → soonest node.moment (slots_of node) ≡ o → IsNextDue node o
  by_answer node None e = λ moment from due.
      let most : AtMost (soonest node.moment (slots_of node)) moment = counts node moment from due in
      let differ : ◌≡◌ {A = Option ℕ} None (Some most.m) = sym e ∙ most.is in absurd cc
  by_answer node (Some m) e =
      elim (from_where node.moment (slots_of node) None m e) [
        | inl none ↦ absurd cc
        | inr src ↦ record {
          from_now = omega (arith, src.is);
          due = due_from node m src;
          least = λ other from due.
              let most : AtMost (soonest node.moment (slots_of node)) other = counts node other from due in
              let same : ◌≡◌ {A = Option ℕ} (Some m) (Some most.m) = sym e ∙ most.is in
              let is : m ≡ most.m = cc in
              omega (arith, is, most.le);
        }
      ]

  pub next_due : (kept : KeptNode) (node : NodeState) → StandsFor kept node → (o : Option ℕ)
      → o ≡ soonest kept.moment kept.slots → IsNextDue node o
  next_due kept node s o e = by_answer node o (sym (e ∙ (λ i. soonest (s.moment i) (s.slots i))))
