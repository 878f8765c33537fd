-- The container that is chosen waited longest.
use Rattle.std.proofs.Common.{◌≡◌, ℕ, ◌+◌, ◌<◌, ◌≤◌, nat_le, nat_lt, Bool, true, false, ◌&&◌, if◌then◌else◌}
use Rattle.std.proofs.Common.{List, [], ◌∷◌, Option, Some, None, slice_get, ◌⊎◌, inl, inr, refl, sym, ◌∙◌, ap}
use Rattle.std.proofs.Common.{suc, zero, arith}
use Rattle.std.proofs.lemmas.Bool.{le-leb, ltb-true, ltb-false}
use Rattle.lifecycle.specs.declared.policy.RestartPolicy.{RestartPolicy}
use Rattle.lifecycle.specs.declared.track.Track.{Track}
use Rattle.worker_pod.specs.declared.container_actions.Pick.{Pick}
use Rattle.worker_pod.specs.declared.container_actions.ContainerAction.{ContainerAction}
use Rattle.worker_pod.specs.Laws.{WaitedLongest}
use Rattle.worker_pod.specs.ContainerActions.{better, chosen, chosen_from, front_of, is_longer, turn_of}
use Rattle.worker_pod.proofs.Offers.{IsOffer, better_is, pick_of}

-- what is picked is the best so far or waited longer
abbrev IsBehind : Pick → Pick → Type 0
IsBehind best pick = (pick ≡ best) ⊎ (pick.worked < best.worked)

-- a pick at a container that was worked on longer ago
offer_behind : (now at : ℕ) (t : Track) (turn : Option ContainerAction) (best b pick : Pick)
    → IsOffer now at t turn (Some best) b → IsBehind b pick → IsBehind best pick
offer_behind now at t turn best b pick o behind =
    let less : t.worked < best.worked = ltb-true t.worked best.worked o.longer in
    let worked : b.worked ≡ t.worked = sym (ap (λ (p : Pick). p.worked) o.is) in
    elim behind [
      | inl same ↦ inr (omega (arith, less, worked, ap (λ (p : Pick). p.worked) same))
      | inr lower ↦ inr (omega (arith, less, worked, lower))
    ]

-- with a best one so far, the better one exists
better_there : (now at : ℕ) (t : Track) (turn : Option ContainerAction) (best : Pick) → (b : Pick)
    × (better now (Some best) at t turn ≡ Some b)
better_there now at t None best = (best, refl)
better_there now at t (Some step) best =
    by_test (nat_le step.from now && is_longer (Some best) t.worked) where
      by_test : (b : Bool) → (p : Pick) × ((if b then Some (pick_of at t step) else Some best) ≡ Some p)
      by_test true = (pick_of at t step, refl)
      by_test false = (best, refl)

pub best_behind : (policy : RestartPolicy) (poll now : ℕ) (front : Option ℕ) (at : ℕ) (best : Pick)
    (ts : List Track) (pick : Pick)
    → chosen_from policy poll now front at (Some best) ts ≡ Some pick → IsBehind best pick
best_behind policy poll now front at best [] pick e = inl cc
best_behind policy poll now front at best (t ∷ ts) pick e =
    let turn : Option ContainerAction = turn_of policy poll front at t in
    let there : (b : Pick) × (better now (Some best) at t turn ≡ Some b) = better_there now at t turn best in
    let rest : IsBehind there.0 pick = best_behind policy poll now front (at + 1) there.0 ts pick
    (ap (λ (o : Option Pick). chosen_from policy poll now front (at + 1) o ts) (sym there.1) ∙ e) in
    elim (better_is now at t turn (Some best) there.0 there.1) [
      | inl same ↦ let is : best ≡ there.0 = cc in rw is rest
      | inr offer ↦ offer_behind now at t turn best there.0 pick offer rest
    ]

-- the better of the best so far and a due container: it was worked on no later
record IsNoLater (now at : ℕ) (t : Track) (best : Option Pick) (step : ContainerAction) : Type 0 where
  pick : Pick
  is : better now best at t (Some step) ≡ Some pick
  worked : pick.worked ≤ t.worked
  place : ((b : Pick) → best ≡ Some b → b.at < at) → pick.at ≤ at

no_later : (now at : ℕ) (t : Track) (best : Option Pick) (step : ContainerAction) → step.from ≤ now
    → IsNoLater now at t best step
no_later now at t None step due = record {
  pick = pick_of at t step;
  is = rw (le-leb step.from now due) refl;
  worked = omega arith;
  place = λ _. omega arith;
}
no_later now at t (Some b) step due = by_test (nat_lt t.worked b.worked) refl where
  due_is : nat_le step.from now ≡ true
  due_is = le-leb step.from now due

  by_test : (longer : Bool) → nat_lt t.worked b.worked ≡ longer → IsNoLater now at t (Some b) step
  by_test true e = record {
    pick = pick_of at t step;
    is = rw (due_is, e) refl;
    worked = omega arith;
    place = λ _. omega arith;
  }
  by_test false e = record {
    pick = b;
    is = rw (due_is, e) refl;
    worked = ltb-false t.worked b.worked e;
    place = λ before. omega (arith, before b refl);
  }

-- a better one is placed no later than here
better_before : (now at : ℕ) (t : Track) (turn : Option ContainerAction) (best : Option Pick)
    → ((b : Pick) → best ≡ Some b → b.at < at)
    → (b : Pick) → better now best at t turn ≡ Some b → b.at < at + 1
better_before now at t turn best before b e =
    elim (better_is now at t turn best b e) [
      | inl same ↦ omega (arith, before b same)
      | inr offer ↦ omega (arith, ap (λ (p : Pick). p.at) offer.is)
    ]

record IsFirst (pick : Pick) (at : ℕ) (t : Track) : Type 0 where
  worked : pick.worked ≤ t.worked
  less : at < pick.at → pick.worked < t.worked

first_here : (policy : RestartPolicy) (poll now : ℕ) (front : Option ℕ) (at : ℕ) (best : Option Pick)
    (t : Track) (ts : List Track) (pick : Pick)
    → ((b : Pick) → best ≡ Some b → b.at < at) → (step : ContainerAction)
    → turn_of policy poll front at t ≡ Some step → step.from ≤ now
    → chosen_from policy poll now front (at + 1) (better now best at t (turn_of policy poll front at t)) ts
    ≡ Some pick → IsFirst pick at t
first_here policy poll now front at best t ts pick before step turn due e =
    let n : IsNoLater now at t best step = no_later now at t best step due in
    let offered : better now best at t (turn_of policy poll front at t) ≡ Some n.pick =
    ap (better now best at t) turn ∙ n.is in
    let behind : IsBehind n.pick pick = best_behind policy poll now front (at + 1) n.pick ts pick
    (ap (λ (o : Option Pick). chosen_from policy poll now front (at + 1) o ts) (sym offered) ∙ e) in
    elim behind [
      | inl same ↦ record {
        worked = omega (arith, ap (λ (p : Pick). p.worked) same, n.worked);
        less = λ after. absurd (omega (arith, after, ap (λ (p : Pick). p.at) same, n.place before));
      }
      | inr lower ↦ record {
        worked = omega (arith, lower, n.worked);
        less = λ _.
            omega (arith, lower, n.worked);
      }
    ]

first_from : (policy : RestartPolicy) (poll now : ℕ) (front : Option ℕ) (at : ℕ) (best : Option Pick)
    (ts : List Track) (pick : Pick)
    → ((b : Pick) → best ≡ Some b → b.at < at) → chosen_from policy poll now front at best ts ≡ Some pick
    → (off place : ℕ) (t : Track) → place ≡ at + off → slice_get ts off ≡ Some t → (step : ContainerAction)
    → turn_of policy poll front place t ≡ Some step → step.from ≤ now
    → IsFirst pick place t
first_from policy poll now front at best [] pick before e off place t p here step turn due = absurd cc
first_from policy poll now front at best (u ∷ ts) pick before e zero place t p here step turn due =
    let same : u ≡ t = cc in
    let at_is : place ≡ at = omega (arith, p) in
    rw at_is (rw (← same) (first_here policy poll now front at best u ts pick before step
    (rw (same, ← at_is) turn) due e))
first_from policy poll now front at best (u ∷ ts) pick before e (suc off) place t p here step turn due =
    first_from policy poll now front (at + 1) (better now best at u (turn_of policy poll front at u)) ts pick
    (better_before now at u (turn_of policy poll front at u) best before) e off place t
    (omega (arith, p)) here step turn due

pub waited_longest : (policy : RestartPolicy) (poll now : ℕ) (tracks : List Track) (pick : Pick)
    → chosen policy poll now tracks ≡ Some pick → WaitedLongest policy poll now tracks pick
waited_longest policy poll now tracks pick e at track here due =
    let first : IsFirst pick at track = first_from policy poll now (front_of policy tracks) 0 None tracks pick
    (λ b n. absurd cc) e at at track (omega arith) here due.0 due.1 due.2 in
    (first.worked, first.less)
