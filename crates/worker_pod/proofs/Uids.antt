-- A pod's requests are about the pod.
use Rattle.std.proofs.Common.{◌≡◌, ℕ, nat_le, Bool, true, false, if◌then◌else◌, Option, Some, None, slice_get}
use Rattle.std.proofs.Common.{refl, sym, ◌∙◌, ap}
use Rattle.std.specs.Option.{option_map}
use Rattle.manifest.specs.declared.containers.Container.{Container}
use Rattle.manifest.specs.declared.pods.Pod.{Pod}
use Rattle.cri_msgs.specs.declared.calls.Call.{Call}
use Rattle.cri_msgs.specs.declared.version.Version.{Version}
use Rattle.cri_msgs.specs.declared.version.Version.TheVariants.{V1, V2}
use Rattle.worker_pod.specs.declared.action.PodAction.{PodAction}
use Rattle.worker_pod.specs.declared.action.PodAction.TheVariants as action
use Rattle.worker_pod.specs.declared.settings.Settings.{Settings}
use Rattle.worker_pod.specs.declared.container_actions.Pick.{Pick}
use Rattle.worker_pod.specs.declared.container_actions.Work.{Work}
use Rattle.worker_pod.specs.declared.container_actions.Work.TheVariants.{Create, Start, Look, Clear}
use Rattle.cri_msgs.specs.Calls.{uid_of}
use Rattle.worker_pod.specs.Next.{call_by, call_of, action_of, key_in, look_by, next_by, next_of}
use Rattle.worker_pod.specs.Past.{Kept}
use Rattle.worker_pod.specs.ContainerActions.{chosen}

by_work : (pod : Pod) (settings : Settings) (c : Container) (work : Work)
    → uid_of (call_of pod settings c work) ≡ pod.uid
by_work pod settings c (Create attempt) = refl
by_work pod settings c (Start attempt) = refl
by_work pod settings c (Look attempt) = by_version settings.version where
  by_version : (version : Version) → uid_of (look_by version (key_in pod c attempt)) ≡ pod.uid
  by_version V1 = refl
  by_version V2 = refl
by_work pod settings c (Clear attempt) = refl

by_container : (pod : Pod) (settings : Settings) (c : Option Container) (work : Work) (call : Call)
    → option_map (λ c. call_of pod settings c work) c ≡ Some call → uid_of call ≡ pod.uid
by_container pod settings None work call e = absurd cc
by_container pod settings (Some c) work call e =
    let same : call_of pod settings c work ≡ call = cc in
    ap uid_of (sym same) ∙ by_work pod settings c work

by_pick : (pod : Pod) (settings : Settings) (o : Option Pick) (call : Call)
    → call_by pod settings o ≡ Some call → uid_of call ≡ pod.uid
by_pick pod settings None call e = absurd cc
by_pick pod settings (Some pick) call e =
    by_container pod settings (slice_get pod.containers.all pick.at) pick.work call e

uid_is : (a b : Call) → Some a ≡ Some b → uid_of b ≡ uid_of a
uid_is a b e = let same : b ≡ a = cc in ap uid_of same

by_action : (kept : Kept) (now : ℕ) (call : Call) (d : PodAction) → next_by kept now d ≡ Some call
    → uid_of call ≡ kept.pod.uid
by_action kept now call action.Nothing e = absurd cc
by_action kept now call action.RunSandbox e = uid_is _ call e
by_action kept now call action.StopSandbox e = uid_is _ call e
by_action kept now call action.RemoveSandbox e = uid_is _ call e
by_action kept now call action.Containers e =
    by_pick kept.pod kept.settings (chosen kept.pod.policy kept.settings.poll now kept.tracks) call e

pub of_the_pod : (kept : Kept) (now : ℕ) (call : Call) → next_of kept now ≡ Some call
    → uid_of call ≡ kept.pod.uid
of_the_pod kept now call e = by_rest (nat_le kept.rest now) e where
  by_rest : (b : Bool) → (if b then next_by kept now (action_of kept) else None) ≡ Some call
      → uid_of call ≡ kept.pod.uid
  by_rest true h = by_action kept now call (action_of kept) h
  by_rest false h = absurd cc
