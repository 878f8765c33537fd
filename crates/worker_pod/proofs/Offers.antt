-- The container that is chosen is one whose turn it is and that is due.
use Rattle.std.proofs.Common.{◌≡◌, ℕ, ◌+◌, ◌≤◌, nat_le, Bool, true, false, ◌&&◌, if◌then◌else◌, List, [], ◌∷◌}
use Rattle.std.proofs.Common.{Option, Some, None, slice_get, ◌⊎◌, inl, inr, refl, sym, ap, suc, arith}
use Rattle.std.proofs.lemmas.Bool.{leb-true}
use Rattle.lifecycle.specs.declared.policy.RestartPolicy.{RestartPolicy}
use Rattle.lifecycle.specs.declared.track.Track.{Track}
use Rattle.worker_pod.specs.declared.container_actions.Pick.{Pick}
use Rattle.worker_pod.specs.declared.container_actions.ContainerAction.{ContainerAction}
use Rattle.worker_pod.specs.ContainerActions.{better, chosen_from, is_longer, turn_of}

pub and_left : (a b : Bool) → (a && b) ≡ true → a ≡ true
and_left true b e = refl
and_left false b e = e

pub and_right : (a b : Bool) → (a && b) ≡ true → b ≡ true
and_right true b e = e
and_right false b e = absurd cc

-- the pick of a container, with the work due for it
abbrev pub pick_of : ℕ → Track → ContainerAction → Pick
pick_of at t step = record { at = at; worked = t.worked; work = step.work }

-- the pick is the container at this place, with the work due for it
pub record IsOffer (now at : ℕ) (t : Track) (turn : Option ContainerAction) (best : Option Pick)
    (pick : Pick) : Type 0 where
  pub step : ContainerAction
  pub turn_is : turn ≡ Some step
  pub due : step.from ≤ now
  pub longer : is_longer best t.worked ≡ true
  pub is : pick_of at t step ≡ pick

-- a better one is the best so far or the new one
by_test : (now at : ℕ) (t : Track) (step : ContainerAction) (best : Option Pick) (pick : Pick) (b : Bool)
    → (nat_le step.from now && is_longer best t.worked) ≡ b
    → (if b then Some (pick_of at t step) else best) ≡ Some pick
    → (best ≡ Some pick) ⊎ IsOffer now at t (Some step) best pick
by_test now at t step best pick true test e = inr (record {
  step = step;
  turn_is = refl;
  due = leb-true step.from now (and_left (nat_le step.from now) (is_longer best t.worked) test);
  longer = and_right (nat_le step.from now) (is_longer best t.worked) test;
  is = cc;
})
by_test now at t step best pick false test e = inl e

pub better_is : (now at : ℕ) (t : Track) (turn : Option ContainerAction) (best : Option Pick) (pick : Pick)
    → better now best at t turn ≡ Some pick → (best ≡ Some pick) ⊎ IsOffer now at t turn best pick
better_is now at t None best pick e = inl e
better_is now at t (Some step) best pick e =
    by_test now at t step best pick (nat_le step.from now && is_longer best t.worked) refl e

-- the pick is one of these containers, the first of which is at this place
pub record IsAmong (policy : RestartPolicy) (poll now : ℕ) (front : Option ℕ) (at : ℕ) (ts : List Track)
    (pick : Pick) : Type 0 where
  pub off : ℕ
  pub track : Track
  pub here : slice_get ts off ≡ Some track
  pub at_is : pick.at ≡ at + off
  pub step : ContainerAction
  pub turn : turn_of policy poll front pick.at track ≡ Some step
  pub due : step.from ≤ now
  pub work : pick.work ≡ step.work

among_more : (policy : RestartPolicy) (poll now : ℕ) (front : Option ℕ) (at : ℕ) (t : Track) (ts : List Track)
    (pick : Pick)
    → IsAmong policy poll now front (at + 1) ts pick → IsAmong policy poll now front at (t ∷ ts) pick
among_more policy poll now front at t ts pick a = record {
  off = suc a.off;
  track = a.track;
  here = a.here;
  at_is = omega (arith, a.at_is);
  step = a.step;
  turn = a.turn;
  due = a.due;
  work = a.work;
}

among_first : (policy : RestartPolicy) (poll now : ℕ) (front : Option ℕ) (at : ℕ) (t : Track)
    (ts : List Track) (best : Option Pick) (pick : Pick)
    → IsOffer now at t (turn_of policy poll front at t) best pick
    → IsAmong policy poll now front at (t ∷ ts) pick
among_first policy poll now front at t ts best pick o =
    let place : pick.at ≡ at = sym (ap (λ (p : Pick). p.at) o.is) in
    record {
      off = 0;
      track = t;
      here = refl;
      at_is = omega (arith, place);
      step = o.step;
      turn = rw place o.turn_is;
      due = o.due;
      work = sym (ap (λ (p : Pick). p.work) o.is);
    }

pub chosen_among : (policy : RestartPolicy) (poll now : ℕ) (front : Option ℕ) (at : ℕ) (best : Option Pick)
    (ts : List Track) (pick : Pick)
    → chosen_from policy poll now front at best ts ≡ Some pick
    → (best ≡ Some pick) ⊎ IsAmong policy poll now front at ts pick
chosen_among policy poll now front at best [] pick e = inl e
chosen_among policy poll now front at best (t ∷ ts) pick e =
    elim (chosen_among policy poll now front (at + 1) (better now best at t (turn_of policy poll front at t))
    ts pick e) [
      | inl same ↦ elim (better_is now at t (turn_of policy poll front at t) best pick same) [
        | inl kept ↦ inl kept
        | inr offer ↦ inr (among_first policy poll now front at t ts best pick offer)
      ]
      | inr among ↦ inr (among_more policy poll now front at t ts pick among)
    ]
