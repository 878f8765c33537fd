-- Whether a sandbox exists after a call.
use Rattle.std.proofs.Common.{◌≡◌, inl, inr, true, false, List, sym, subst, ◌∙◌, refl}
use Rattle.cri_msgs.specs.declared.calls.Call.{Call}
use Rattle.cri_msgs.specs.declared.calls.Call.TheVariants.{RunPodSandbox, StopPodSandbox, RemovePodSandbox}
use Rattle.cri_msgs.specs.declared.calls.Call.TheVariants.{CreateContainer, StartContainer, StopContainer}
use Rattle.cri_msgs.specs.declared.calls.Call.TheVariants.{RemoveContainer, ContainerStatus, ListContainers}
use Rattle.cri_msgs.specs.declared.calls.Call.TheVariants.{ContainerStatuses}
use Rattle.cri_msgs.specs.declared.replies.Answer.{Answer}
use Rattle.cri_msgs.specs.Calls.{uid_of}
use Rattle.creation.specs.declared.files.FileAnswers.{FileAnswers}
use Rattle.registry.specs.declared.registry.Registry.{Registry}
use Rattle.registry.specs.declared.stage.Stage.{Stage}
use Rattle.registry.specs.declared.stage.Stage.TheVariants.{Unknown, Live, Removed}
use Rattle.registry.specs.Serves.{IsFull, Part, RunsPod, ServesIn}
use Rattle.registry.specs.Stands.{around_in, part_in, stages_in}
use Rattle.runtime_cell.specs.Cell.{Cell}
use Rattle.runtime_core.proofs.Stays.{alive, lasts, removes_dead, runs_still}
use Rattle.runtime_history.specs.Sandboxes.{IsLive, Removes, Wakes}

to_alive : (s : Stage) → IsLive s → alive s ≡ true
to_alive Unknown live = absurd live
to_alive (Live ready) live = refl
to_alive Removed live = absurd live

of_alive : (s : Stage) → alive s ≡ true → IsLive s
of_alive Unknown is = absurd cc
of_alive (Live ready) is = tt
of_alive Removed is = absurd cc

to_dead : (s : Stage) → (IsLive s → ⊥) → alive s ≡ false
to_dead Unknown dead = refl
to_dead (Live ready) dead = absurd (dead tt)
to_dead Removed dead = refl

of_dead : (s : Stage) → alive s ≡ false → IsLive s → ⊥
of_dead Unknown is live = live
of_dead (Live ready) is live = absurd cc
of_dead Removed is live = live

still_live : (old new : Part) → alive new.sandbox.stage ≡ alive old.sandbox.stage
    → IsLive old.sandbox.stage → IsLive new.sandbox.stage
still_live old new same live = of_alive new.sandbox.stage (same ∙ to_alive old.sandbox.stage live)

still_dead : (old new : Part) → alive new.sandbox.stage ≡ alive old.sandbox.stage
    → (IsLive old.sandbox.stage → ⊥) → IsLive new.sandbox.stage → ⊥
still_dead old new same dead = of_dead new.sandbox.stage (same ∙ to_dead old.sandbox.stage dead)

-- a sandbox stays unless a call removes it
pub stays_live : (r : Registry) (call : Call) (files : FileAnswers) (old new : Part) (answer : Answer)
    → ServesIn (around_in r) call files old answer new → (Removes call → ⊥)
    → IsLive old.sandbox.stage → IsLive new.sandbox.stage
stays_live r (RunPodSandbox uid) files old new answer row keeps = λ live. still_live old new
    (runs_still (around_in r) (RunPodSandbox uid) files old new answer refl
    (λ is. subst IsLive is live) row)
    live
stays_live r (StopPodSandbox uid grace) files old new answer row keeps = still_live old new
    (lasts (around_in r) (StopPodSandbox uid grace) files old new answer refl row)
stays_live r (RemovePodSandbox uid) files old new answer row keeps = λ live. absurd (keeps tt)
stays_live r (CreateContainer key image choice) files old new answer row keeps = still_live old new
    (lasts (around_in r) (CreateContainer key image choice) files old new answer refl row)
stays_live r (StartContainer key) files old new answer row keeps = still_live old new
    (lasts (around_in r) (StartContainer key) files old new answer refl row)
stays_live r (StopContainer key grace) files old new answer row keeps = still_live old new
    (lasts (around_in r) (StopContainer key grace) files old new answer refl row)
stays_live r (RemoveContainer key) files old new answer row keeps = still_live old new
    (lasts (around_in r) (RemoveContainer key) files old new answer refl row)
stays_live r (ContainerStatus key) files old new answer row keeps = still_live old new
    (lasts (around_in r) (ContainerStatus key) files old new answer refl row)
stays_live r (ListContainers uid) files old new answer row keeps = still_live old new
    (lasts (around_in r) (ListContainers uid) files old new answer refl row)
stays_live r (ContainerStatuses uid) files old new answer row keeps = still_live old new
    (lasts (around_in r) (ContainerStatuses uid) files old new answer refl row)

no_pod_runs : (s : Stage) (full : Type 0) (old new : Part) (answer : Answer) → old.sandbox.stage ≡ s
    → (IsLive s → ⊥) → (s ≡ Unknown → (full → ⊥) → ⊥) → RunsPod s full old answer new
    → IsLive new.sandbox.stage → ⊥
no_pod_runs Unknown full old new answer is dead wakes row = elim row [
  | inl many ↦ λ live. subst (λ (p : Part). IsLive p.sandbox.stage → ⊥) (sym many.1.1)
      (λ l. subst IsLive is l) live
  | inr place ↦ absurd (wakes refl place.0)
]
no_pod_runs (Live ready) full old new answer is dead wakes row = absurd (dead tt)
no_pod_runs Removed full old new answer is dead wakes row = λ live.
    subst (λ (p : Part). IsLive p.sandbox.stage → ⊥) (sym row.1) (λ l. subst IsLive is l) live

-- if there is none, only a call that makes it adds one
pub stays_dead : (r : Registry) (call : Call) (files : FileAnswers) (old new : Part) (answer : Answer)
    → ServesIn (around_in r) call files old answer new → old.sandbox.stage ≡ stages_in r (uid_of call)
    → (Wakes r call → ⊥) → (IsLive old.sandbox.stage → ⊥) → IsLive new.sandbox.stage → ⊥
stays_dead r (RunPodSandbox uid) files old new answer row is makes_none = λ dead.
    no_pod_runs old.sandbox.stage (IsFull (stages_in r)) old new answer refl dead
    (λ unknown place. makes_none (sym is ∙ unknown, place)) row
stays_dead r (StopPodSandbox uid grace) files old new answer row is makes_none = still_dead old new
    (lasts (around_in r) (StopPodSandbox uid grace) files old new answer refl row)
stays_dead r (RemovePodSandbox uid) files old new answer row is makes_none = λ dead.
    of_dead new.sandbox.stage (removes_dead (around_in r)
    (RemovePodSandbox uid) files old new answer refl row)
stays_dead r (CreateContainer key image choice) files old new answer row is makes_none = still_dead old new
    (lasts (around_in r) (CreateContainer key image choice) files old new answer refl row)
stays_dead r (StartContainer key) files old new answer row is makes_none = still_dead old new
    (lasts (around_in r) (StartContainer key) files old new answer refl row)
stays_dead r (StopContainer key grace) files old new answer row is makes_none = still_dead old new
    (lasts (around_in r) (StopContainer key grace) files old new answer refl row)
stays_dead r (RemoveContainer key) files old new answer row is makes_none = still_dead old new
    (lasts (around_in r) (RemoveContainer key) files old new answer refl row)
stays_dead r (ContainerStatus key) files old new answer row is makes_none = still_dead old new
    (lasts (around_in r) (ContainerStatus key) files old new answer refl row)
stays_dead r (ListContainers uid) files old new answer row is makes_none = still_dead old new
    (lasts (around_in r) (ListContainers uid) files old new answer refl row)
stays_dead r (ContainerStatuses uid) files old new answer row is makes_none = still_dead old new
    (lasts (around_in r) (ContainerStatuses uid) files old new answer refl row)

pub wakes_unknown : (r : Registry) (call : Call) → Wakes r call → stages_in r (uid_of call) ≡ Unknown
wakes_unknown r (RunPodSandbox uid) wakes = wakes.0
wakes_unknown r (StopPodSandbox uid grace) wakes = absurd wakes
wakes_unknown r (RemovePodSandbox uid) wakes = absurd wakes
wakes_unknown r (CreateContainer key image choice) wakes = absurd wakes
wakes_unknown r (StartContainer key) wakes = absurd wakes
wakes_unknown r (StopContainer key grace) wakes = absurd wakes
wakes_unknown r (RemoveContainer key) wakes = absurd wakes
wakes_unknown r (ContainerStatus key) wakes = absurd wakes
wakes_unknown r (ListContainers uid) wakes = absurd wakes
wakes_unknown r (ContainerStatuses uid) wakes = absurd wakes

pub wakes_dead : (r : Registry) (call : Call) → Wakes r call → IsLive (stages_in r (uid_of call)) → ⊥
wakes_dead r call wakes live = subst IsLive (wakes_unknown r call wakes) live

module _ (old new : Registry) (call : Call) (files : FileAnswers) (answer : Answer)
    (before behind : List Cell)
    (row : ServesIn (around_in old) call files (part_in old (uid_of call) before) answer
    (part_in new (uid_of call) behind)) where
  pub live_still : (Removes call → ⊥) → IsLive (stages_in old (uid_of call))
      → IsLive (stages_in new (uid_of call))
  live_still = stays_live old call files (part_in old (uid_of call) before)
      (part_in new (uid_of call) behind)
      answer row

  pub dead_still : (Wakes old call → ⊥) → (IsLive (stages_in old (uid_of call)) → ⊥)
      → IsLive (stages_in new (uid_of call)) → ⊥
  dead_still = stays_dead old call files (part_in old (uid_of call) before)
      (part_in new (uid_of call) behind)
      answer row refl
