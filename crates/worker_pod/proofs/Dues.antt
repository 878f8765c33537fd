-- A request is due exactly from the reported moment.
use Rattle.std.proofs.Common.{◌≡◌, ℕ, ◌+◌, ◌<◌, nat_le, nat_lt, min, max, Bool, true, false, ◌&&◌}
use Rattle.std.proofs.Common.{if◌then◌else◌, List, [], ◌∷◌, length, Option, Some, None, slice_get, inl, inr}
use Rattle.std.proofs.Common.{refl, sym, ◌∙◌, ap, suc, zero, arith}
use Rattle.std.proofs.lemmas.Bool.Decides.{nat_tests}
use Rattle.std.proofs.lemmas.Option.{slice_get_within}
use Rattle.std.specs.Option.{is_some, option_map}
use Rattle.lifecycle.specs.declared.policy.RestartPolicy.{RestartPolicy}
use Rattle.lifecycle.specs.declared.track.Track.{Track}
use Rattle.manifest.specs.declared.containers.Container.{Container}
use Rattle.manifest.specs.declared.pods.Pod.{Pod}
use Rattle.cri_msgs.specs.declared.calls.Call.{Call}
use Rattle.cri_msgs.specs.declared.calls.Call.TheVariants.{RunPodSandbox, StopPodSandbox, RemovePodSandbox}
use Rattle.worker_pod.specs.declared.action.PodAction.{PodAction}
use Rattle.worker_pod.specs.declared.action.PodAction.TheVariants as action
use Rattle.worker_pod.specs.declared.settings.Settings.{Settings}
use Rattle.worker_pod.specs.declared.container_actions.Pick.{Pick}
use Rattle.worker_pod.specs.declared.container_actions.ContainerAction.{ContainerAction}
use Rattle.worker_pod.specs.Next.{call_by, call_of, due_by, due_of, action_of, has_come, next_by, next_of}
use Rattle.worker_pod.specs.Past.{Kept, Past, held_of}
use Rattle.worker_pod.specs.ContainerActions.{better, chosen, chosen_from, front_of, sooner, soonest}
use Rattle.worker_pod.specs.ContainerActions.{soonest_from}
use Rattle.worker_pod.specs.ContainerActions.{turn_of}
use Rattle.worker_pod.proofs.Offers.{chosen_among, pick_of}
use Rattle.worker_pod.proofs.Places.{length_is, pod_is}

-- the earlier of two moments has come if one has
sooner_come : (a b now : ℕ) → nat_le a now ≡ false → nat_le (min a b) now ≡ nat_le b now
sooner_come a b now e = grind (arith, nat_tests)

first_come : (a b now : ℕ) → nat_le a now ≡ true → nat_le (min a b) now ≡ true
first_come a b now e = grind (arith, nat_tests)

latest_come : (a b now : ℕ) → nat_le (max a b) now ≡ (nat_le a now && nat_le b now)
latest_come a b now = grind (arith, nat_tests)

some_if : {X : Type 0} (b : Bool) (x : X) (o : Option X) → is_some o ≡ false
    → is_some (if b then Some x else o) ≡ b
some_if true x o e = refl
some_if false x o e = e

none_if : (b : Bool) (o : Option Call) → is_some o ≡ false → is_some (if b then o else None) ≡ false
none_if true o e = e
none_if false o e = refl

some_either : {X : Type 0} (b : Bool) (x y : X) → is_some (if b then Some x else Some y) ≡ true
some_either true x y = refl
some_either false x y = refl

and_true : (b : Bool) → (b && true) ≡ b
and_true true = refl
and_true false = refl

-- one more container
same_step : (now at : ℕ) (t : Track) (turn : Option ContainerAction) (best : Option Pick) (moment : Option ℕ)
    → is_some best ≡ has_come moment now → is_some (better now best at t turn)
    ≡ has_come (sooner moment turn) now
same_step now at t None best moment e = e
same_step now at t (Some step) None None e =
    some_if (nat_le step.from now && true) (pick_of at t step) None refl ∙ and_true (nat_le step.from now)
same_step now at t (Some step) None (Some m) e =
    some_if (nat_le step.from now && true) (pick_of at t step) None refl ∙ and_true (nat_le step.from now)
    ∙ sym (sooner_come m step.from now (sym e))
same_step now at t (Some step) (Some best) None e = absurd cc
same_step now at t (Some step) (Some best) (Some m) e =
    some_either (nat_le step.from now && nat_lt t.worked best.worked) (pick_of at t step) best
    ∙ sym (first_come m step.from now (sym e))

same_from : (policy : RestartPolicy) (poll now : ℕ) (front : Option ℕ) (at : ℕ) (best : Option Pick)
    (moment : Option ℕ) (ts : List Track)
    → is_some best ≡ has_come moment now → is_some (chosen_from policy poll now front at best ts)
    ≡ has_come (soonest_from policy poll front at moment ts) now
same_from policy poll now front at best moment [] e = e
same_from policy poll now front at best moment (t ∷ ts) e =
    let turn : Option ContainerAction = turn_of policy poll front at t in
    same_from policy poll now front (at + 1) (better now best at t turn) (sooner moment turn) ts
    (same_step now at t turn best moment e)

-- a chosen place has a container
there : (cs : List Container) (at : ℕ) → at < length cs → (c : Option Container) → slice_get cs at ≡ c
    → is_some c ≡ true
there cs at l (Some c) e = refl
there cs at l None e = absurd (past cs at l e) where
  past : (cs : List Container) (at : ℕ) → at < length cs → slice_get cs at ≡ None → ⊥
  past [] at l e = absurd (omega (arith, l))
  past (c ∷ cs) zero l e = cc
  past (c ∷ cs) (suc at) l e = past cs at (omega (arith, l)) e

some_map : {X Y : Type 0} (f : X → Y) (o : Option X) → is_some (option_map f o) ≡ is_some o
some_map f None = refl
some_map f (Some x) = refl

some_call : (kept : Kept) (now : ℕ) → length kept.tracks ≡ length kept.pod.containers.all → (o : Option Pick)
    → chosen kept.pod.policy kept.settings.poll now kept.tracks ≡ o
    → is_some (call_by kept.pod kept.settings o) ≡ is_some o
some_call kept now long None e = refl
some_call kept now long (Some pick) e =
    elim (chosen_among kept.pod.policy kept.settings.poll now (front_of kept.pod.policy kept.tracks) 0 None
    kept.tracks pick e) [
      | inl none ↦ absurd cc
      | inr among ↦
          let within : among.off < length kept.tracks =
          slice_get_within kept.tracks among.off among.track among.here in
          let at : pick.at < length kept.pod.containers.all = omega (arith, within, long, among.at_is) in
          some_map (λ c. call_of kept.pod kept.settings c pick.work)
          (slice_get kept.pod.containers.all pick.at)
          ∙ there kept.pod.containers.all pick.at at (slice_get kept.pod.containers.all pick.at) refl
    ]

come_map : (rest now : ℕ) (o : Option ℕ) → has_come (option_map (λ m. max m rest) o) now
    ≡ (has_come o now && nat_le rest now)
come_map rest now None = refl
come_map rest now (Some m) = latest_come m rest now

by_action : (kept : Kept) (now : ℕ) → length kept.tracks ≡ length kept.pod.containers.all → (d : PodAction)
    → is_some (if nat_le kept.rest now then next_by kept now d else None) ≡ has_come (due_by kept d) now
by_action kept now long action.Nothing = none_if (nat_le kept.rest now) None refl
by_action kept now long action.RunSandbox =
    some_if (nat_le kept.rest now) (RunPodSandbox kept.pod.uid) None refl
by_action kept now long action.StopSandbox =
    some_if (nat_le kept.rest now) (StopPodSandbox kept.pod.uid kept.pod.grace) None refl
by_action kept now long action.RemoveSandbox =
    some_if (nat_le kept.rest now) (RemovePodSandbox kept.pod.uid) None refl
by_action kept now long action.Containers =
    let is : is_some (next_by kept now action.Containers)
    ≡ has_come (soonest kept.pod.policy kept.settings.poll kept.tracks) now =
    some_call kept now long (chosen kept.pod.policy kept.settings.poll now kept.tracks) refl
    ∙ same_from kept.pod.policy kept.settings.poll now (front_of kept.pod.policy kept.tracks) 0 None None
    kept.tracks refl in
    by_test (nat_le kept.rest now) (next_by kept now action.Containers)
    (has_come (soonest kept.pod.policy kept.settings.poll kept.tracks) now) is
    ∙ sym (come_map kept.rest now (soonest kept.pod.policy kept.settings.poll kept.tracks))
  where
    by_test : {X : Type 0} (b : Bool) (o : Option X) (come : Bool) → is_some o ≡ come
        → is_some (if b then o else None) ≡ (come && b)
    by_test true o true e = e
    by_test true o false e = e
    by_test false o true e = refl
    by_test false o false e = refl

pub due_when_next : (settings : Settings) (past : Past) (now : ℕ)
    → is_some (next_of (held_of settings past) now) ≡ has_come (due_of (held_of settings past)) now
due_when_next settings past now =
    let kept : Kept = held_of settings past in
    let long : length kept.tracks ≡ length kept.pod.containers.all = length_is settings past.pod past.claims
    ∙ ap (λ (p : Pod). length p.containers.all) (sym (pod_is settings past.pod past.claims)) in
    by_action kept now long (action_of kept)
