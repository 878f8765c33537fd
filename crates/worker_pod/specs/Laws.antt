-- Laws of every pod on a node: this project's own, over the order of init containers and restarts of
-- Kubernetes 1.27, pod lifecycle. docs/SEMANTICS.md, "The agent: one pod".
use Rattle.std.specs.Prelude.{◌≡◌, ℕ, ◌+◌, ◌<◌, ◌≤◌, true, List, [], ◌∷◌, length, Some, slice_get}
use Rattle.std.specs.List.{All, AllByRecursion, Any}
use Rattle.lifecycle.specs.BackOff.{Run, last_of, ready_at}
use Rattle.lifecycle.specs.Restart.{may_restart}
use Rattle.lifecycle.specs.Tracks.{is_succeeded}
use Rattle.lifecycle.specs.declared.policy.RestartPolicy.{RestartPolicy}
use Rattle.lifecycle.specs.declared.track.Stage.{Stage}
use Rattle.lifecycle.specs.declared.track.Stage.TheVariants as stage
use Rattle.lifecycle.specs.declared.track.Track.{Track}
use Rattle.manifest.specs.declared.containers.Container.{Container}
use Rattle.manifest.specs.declared.pods.Pod.{Pod}
use Rattle.manifest.specs.declared.profiles.SeccompProfile.{SeccompProfile}
use Rattle.profile_pick.specs.Choice.{choice_of}
use Rattle.cri_msgs.specs.Calls.{uid_of}
use Rattle.cri_msgs.specs.Tells.{TellsExit}
use Rattle.cri_msgs.specs.declared.calls.Call.{Call}
use Rattle.cri_msgs.specs.declared.calls.Call.TheVariants.{CreateContainer}
use Rattle.cri_msgs.specs.declared.keys.Key.{Key}
use Rattle.cri_msgs.specs.declared.replies.Reply.{Reply}
use Rattle.worker_pod.specs.declared.settings.Outcome.TheVariants.{Replied}
use Rattle.worker_pod.specs.declared.settings.Settings.{Settings}
use Rattle.worker_pod.specs.declared.container_actions.Pick.{Pick}
use Rattle.worker_pod.specs.declared.container_actions.ContainerAction.{ContainerAction}
use Rattle.worker_pod.specs.Next.{key_in}
use Rattle.worker_pod.specs.Past.{Claimed, Kept, read_off}
use Rattle.worker_pod.specs.ContainerActions.{front_of, is_in_turn, turn_of}

-- the claims are of this pod
abbrev pub AreOf : List ℕ → List Claimed → Type 0
AreOf uid cs = AllByRecursion (λ (c : Claimed). uid_of c.request.call ≡ uid) cs

-- the container ended for good, and its last run with code 0
pub record EndedWell (policy : RestartPolicy) (track : Track) : Type 0 where
  pub over : is_succeeded policy track ≡ true
  pub run : Run
  pub last : last_of track.runs ≡ Some run
  pub zero : run.code ≡ 0

-- attempt k ended and was removed, another may be, and its back-off is over
pub record Follows (policy : RestartPolicy) (track : Track) (k now : ℕ) : Type 0 where
  pub stage : track.stage ≡ stage.Removed k
  pub run : Run
  pub last : last_of track.runs ≡ Some run
  pub may : may_restart policy track.init run.code ≡ true
  pub ready : ready_at track.runs ≤ now

-- an attempt at a container is made
pub record Creation (kept : Kept) (now : ℕ) (key : Key) (image : List ℕ)
    (profile : SeccompProfile) : Type 0 where
  pub place : ℕ
  pub track : Track
  pub container : Container
  pub here : slice_get kept.tracks place ≡ Some track
  pub named : slice_get kept.pod.containers.all place ≡ Some container
  pub of_container : key ≡ key_in kept.pod container key.container.attempt
  -- what is sent follows the manifest
  pub its_image : image ≡ container.image
  pub its_profile : profile ≡ choice_of kept.pod.profile container kept.settings.seccomp_default
  pub in_turn : is_in_turn (front_of kept.pod.policy kept.tracks) place track ≡ true
  -- the init containers, for one of them those before it, have succeeded
  pub in_order : (at : ℕ) (t : Track) → slice_get kept.tracks at ≡ Some t → t.init ≡ true
      → (track.init ≡ true → at < place) → EndedWell kept.pod.policy t
  -- the first attempt is made if there was none, any other one after the one before
  pub first : key.container.attempt ≡ 0 → track.stage ≡ stage.Absent
  pub follows : (k : ℕ) → key.container.attempt ≡ k + 1 → Follows kept.pod.policy track k now

-- a reply to this claim reported the run's exit of that attempt, when the run was recorded
pub record TellsRun (key : Key) (run : Run) (c : Claimed) : Type 0 where
  pub reply : Reply
  pub is : c.outcome ≡ Replied reply
  pub number : reply.id ≡ c.request.id
  pub tells : TellsExit c.request.call reply.answer key run.code
  pub recorded : run.recorded ≡ c.moment

abbrev pub key_named : List ℕ → List ℕ → ℕ → Key
key_named uid name attempt = record { uid = uid; container = record { name = name; attempt = attempt } }

abbrev pub RunReported : List ℕ → List Claimed → List ℕ → ℕ → Run → Type 0
RunReported uid cs name k run = Any (TellsRun (key_named uid name k) run) cs

-- attempt k has ended
abbrev pub HasEnded : ℕ → Stage → Type 0
HasEnded k (stage.Exited attempt) = attempt ≡ k
HasEnded k (stage.Removed attempt) = attempt ≡ k
HasEnded k s = ⊥

-- the last run is that of attempt k
pub record LastRun (uid : List ℕ) (cs : List Claimed) (name : List ℕ) (track : Track) (k : ℕ) : Type 0 where
  pub run : Run
  pub last : last_of track.runs ≡ Some run
  pub told : RunReported uid cs name k run

-- the kept runs of a container were reported by replies to claims of its attempts
pub record RunsReported (uid : List ℕ) (cs : List Claimed) (name : List ℕ) (track : Track) : Type 0 where
  pub ended : (k : ℕ) → HasEnded k track.stage → LastRun uid cs name track k
  pub runs : All (λ (run : Run). (k : ℕ) × RunReported uid cs name k run) track.runs

-- the container's turn has come, and so has the moment from which its work is due
abbrev pub IsDue : RestartPolicy → ℕ → ℕ → List Track → ℕ → Track → Type 0
IsDue policy poll now tracks at track =
    (step : ContainerAction) × (turn_of policy poll (front_of policy tracks) at track ≡ Some step)
    × (step.from ≤ now)

-- of those that are due it was worked on longest ago, and is the first of equal ones
abbrev pub WaitedLongest : RestartPolicy → ℕ → ℕ → List Track → Pick → Type 0
WaitedLongest policy poll now tracks pick =
    (at : ℕ) (track : Track) → slice_get tracks at ≡ Some track → IsDue policy poll now tracks at track
    → (pick.worked ≤ track.worked) × (at < pick.at → pick.worked < track.worked)

-- a creation is of the attempt whose number is that of the container's runs so far
abbrev pub IsNumbered : List ℕ → Track → Call → Type 0
IsNumbered name track call = (key : Key) (image : List ℕ) (profile : SeccompProfile)
    → call ≡ CreateContainer key image profile
    → key.container.name ≡ name → key.container.attempt ≡ length track.runs

-- whichever container it is of
abbrev pub IsNumberedIn : List Container → List Track → Call → Type 0
IsNumberedIn containers tracks call = (at : ℕ) (track : Track) (container : Container)
    → slice_get tracks at ≡ Some track
    → slice_get containers at ≡ Some container → IsNumbered container.name track call

-- each of the pod's creations was so when its claim ended
abbrev pub AreNumbered : Settings → Pod → List Claimed → Type 0
AreNumbered settings pod [] = Unit {0}
AreNumbered settings pod (c ∷ cs) = IsNumberedIn pod.containers.all
    (read_off pod settings cs).tracks c.request.call × AreNumbered settings pod cs
