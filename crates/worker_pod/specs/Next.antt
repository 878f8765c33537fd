-- A pod's next request, and the moment from which it is due: this project's own. docs/SEMANTICS.md, "The
-- agent: one pod".
use Rattle.std.specs.Prelude.{ℕ, nat_le, max, Bool, true, false, if◌then◌else◌, Option, Some, None, slice_get}
use Rattle.std.specs.Option.{option_map}
use Rattle.lifecycle.specs.Phases.{phase_of}
use Rattle.lifecycle.specs.declared.phases.Phase.{Phase}
use Rattle.lifecycle.specs.declared.phases.Phase.TheVariants as phase
use Rattle.manifest.specs.declared.containers.Container.{Container}
use Rattle.manifest.specs.declared.pods.Pod.{Pod}
use Rattle.profile_pick.specs.Choice.{choice_of}
use Rattle.cri_msgs.specs.declared.calls.Call.{Call}
use Rattle.cri_msgs.specs.declared.calls.Call.TheVariants.{RunPodSandbox, StopPodSandbox, RemovePodSandbox}
use Rattle.cri_msgs.specs.declared.calls.Call.TheVariants.{CreateContainer, StartContainer, RemoveContainer}
use Rattle.cri_msgs.specs.declared.calls.Call.TheVariants.{ContainerStatus, ContainerStatuses}
use Rattle.cri_msgs.specs.declared.calls.Request.{Request}
use Rattle.cri_msgs.specs.declared.keys.Key.{Key}
use Rattle.cri_msgs.specs.declared.version.Version.{Version}
use Rattle.cri_msgs.specs.declared.version.Version.TheVariants.{V1, V2}
use Rattle.worker_pod.specs.declared.action.PodAction.{PodAction}
use Rattle.worker_pod.specs.declared.action.PodAction.TheVariants as action
use Rattle.worker_pod.specs.declared.sandbox.Sandbox.{Sandbox}
use Rattle.worker_pod.specs.declared.sandbox.Sandbox.TheVariants as sandbox
use Rattle.worker_pod.specs.declared.settings.Settings.{Settings}
use Rattle.worker_pod.specs.declared.container_actions.Pick.{Pick}
use Rattle.worker_pod.specs.declared.container_actions.Work.{Work}
use Rattle.worker_pod.specs.declared.container_actions.Work.TheVariants.{Create, Start, Look, Clear}
use Rattle.worker_pod.specs.Past.{Kept}
use Rattle.worker_pod.specs.ContainerActions.{chosen, soonest}

abbrev pub phase_in : Kept → Phase
phase_in kept = phase_of kept.pod.policy kept.lost kept.tracks

-- a deleted pod's sandbox is stopped, and then removed
abbrev pub unmaking : Sandbox → PodAction
unmaking sandbox.Stopped = action.RemoveSandbox
unmaking sandbox.Removed = action.Nothing
unmaking s = action.StopSandbox

abbrev pub making : Sandbox → PodAction
making sandbox.Ready = action.Containers
making s = action.RunSandbox

-- nothing is done for a pod that is over
abbrev pub action_in : Phase → Sandbox → PodAction
action_in phase.Succeeded s = action.Nothing
action_in phase.Failed s = action.Nothing
action_in p s = making s

-- what comes next
abbrev pub action_of : Kept → PodAction
action_of kept = if kept.deleted then unmaking kept.sandbox else action_in (phase_in kept) kept.sandbox

-- the moment from which it is due
abbrev pub due_by : Kept → PodAction → Option ℕ
due_by kept action.Nothing = None
due_by kept action.RunSandbox = Some kept.rest
due_by kept action.StopSandbox = Some kept.rest
due_by kept action.RemoveSandbox = Some kept.rest
due_by kept action.Containers = option_map (λ moment. max moment kept.rest)
    (soonest kept.pod.policy kept.settings.poll kept.tracks)

abbrev pub due_of : Kept → Option ℕ
due_of kept = due_by kept (action_of kept)

abbrev pub key_in : Pod → Container → ℕ → Key
key_in pod container attempt = record {
  uid = pod.uid;
  container =
      record { name = container.name; attempt = attempt };
}

-- the call that asks for a container's status; that of version 2 asks for those of the whole pod
abbrev pub look_by : Version → Key → Call
look_by V1 key = ContainerStatus key
look_by V2 key = ContainerStatuses key.uid

-- the call that does the work on the container
abbrev pub call_of : Pod → Settings → Container → Work → Call
call_of pod settings c (Create attempt) =
    CreateContainer (key_in pod c attempt) c.image (choice_of pod.profile c settings.seccomp_default)
call_of pod settings c (Start attempt) = StartContainer (key_in pod c attempt)
call_of pod settings c (Look attempt) = look_by settings.version (key_in pod c attempt)
call_of pod settings c (Clear attempt) = RemoveContainer (key_in pod c attempt)

abbrev pub call_by : Pod → Settings → Option Pick → Option Call
call_by pod settings None = None
call_by pod settings (Some pick) = option_map (λ c. call_of pod settings c pick.work)
    (slice_get pod.containers.all pick.at)

abbrev pub next_by : Kept → ℕ → PodAction → Option Call
next_by kept now action.Nothing = None
next_by kept now action.RunSandbox = Some (RunPodSandbox kept.pod.uid)
next_by kept now action.StopSandbox = Some (StopPodSandbox kept.pod.uid kept.pod.grace)
next_by kept now action.RemoveSandbox = Some (RemovePodSandbox kept.pod.uid)
next_by kept now action.Containers =
    call_by kept.pod kept.settings (chosen kept.pod.policy kept.settings.poll now kept.tracks)

-- the call that is due at this moment
abbrev pub next_of : Kept → ℕ → Option Call
next_of kept now = if nat_le kept.rest now then next_by kept now (action_of kept) else None

abbrev pub numbered : ℕ → Call → Request
numbered number call = record { id = number; call = call }

-- whether a moment has come
abbrev pub has_come : Option ℕ → ℕ → Bool
has_come None now = false
has_come (Some moment) now = nat_le moment now

-- the removal of its sandbox was answered
abbrev pub is_gone : Sandbox → Bool
is_gone sandbox.Removed = true
is_gone s = false
