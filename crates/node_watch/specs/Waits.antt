-- Why a container of a pod waits: this project's own, docs/SEMANTICS.md, "Why a container waits". The order
-- of init containers, restarts and their back-off are those of Kubernetes 1.27, pod lifecycle.
use Rattle.std.specs.Prelude.{ℕ, ◌+◌, ◌-◌, ◌/◌, ◌==◌, ◌&&◌, ◌||◌, nat_lt, Bool, true, false, not}
use Rattle.std.specs.Prelude.{if◌then◌else◌}
use Rattle.std.specs.Prelude.{List, [], ◌∷◌, length, Option, Some, None}
use Rattle.std.specs.Str.{bytes_eq}
use Rattle.lifecycle.specs.BackOff.{Run, last_of, ready_at}
use Rattle.lifecycle.specs.Tracks.{is_succeeded, state_of}
use Rattle.lifecycle.specs.declared.policy.RestartPolicy.{RestartPolicy}
use Rattle.lifecycle.specs.declared.state.ContainerState.{ContainerState}
use Rattle.lifecycle.specs.declared.state.ContainerState.TheVariants.{Waiting, Running, Terminated}
use Rattle.lifecycle.specs.declared.track.Stage.{Stage}
use Rattle.lifecycle.specs.declared.track.Stage.TheVariants as stage
use Rattle.lifecycle.specs.declared.track.Track.{Track}
use Rattle.manifest.specs.declared.containers.Container.{Container}
use Rattle.node_watch.specs.declared.reasons.Reason.{Reason}
use Rattle.node_watch.specs.declared.waits.ContainerWait.{ContainerWait}
use Rattle.node_watch.specs.declared.waits.WaitReason.{WaitReason}
use Rattle.node_watch.specs.declared.waits.WaitReason.TheVariants.{Setup, BackOff, Failed, Due, Runs}
use Rattle.node_watch.specs.Calls.{call_name}
use Rattle.node_watch.specs.Reasons.{is_same_cause, is_same_trouble, reason_for}

-- an init container that has not succeeded: those after it wait for it
abbrev pub holds_back : RestartPolicy → Track → Bool
holds_back policy track = track.init && not (is_succeeded policy track)

-- the back-off after the last run, at a moment before its end: that end, the code of the run, and the number
-- of the next run
abbrev pub back_off_behind : ℕ → List Run → Option Run → Option WaitReason
back_off_behind moment runs None = None
back_off_behind moment runs (Some run) =
    if nat_lt moment (ready_at runs) then Some (BackOff (ready_at runs) run.code (length runs + 1)) else None

-- an attempt that ended is followed by another one
abbrev pub back_off_in : ℕ → List Run → Stage → Option WaitReason
back_off_in moment runs (stage.Exited attempt) = back_off_behind moment runs (last_of runs)
back_off_in moment runs (stage.Removed attempt) = back_off_behind moment runs (last_of runs)
back_off_in moment runs s = None

abbrev pub unless_failed : WaitReason → Option Reason → WaitReason
unless_failed reason None = reason
unless_failed reason (Some failed) = Failed failed

abbrev pub unless_backed_off : Option WaitReason → Option Reason → WaitReason
unless_backed_off (Some back_off) failed = back_off
unless_backed_off None failed = unless_failed Due failed

-- From a container's state, whether one holds it back, its back-off, and the last failed call about it: it
-- has one reason, and none if it is over.
abbrev pub reason_by : ContainerState → Bool → Option WaitReason → Option Reason → Option WaitReason
reason_by (Terminated code) is_behind back_off failed = None
reason_by Running is_behind back_off failed = Some (unless_failed Runs failed)
reason_by Waiting true back_off failed = Some Setup
reason_by Waiting false back_off failed = Some (unless_backed_off back_off failed)

abbrev pub reason_of : RestartPolicy → Bool → ℕ → Track → Option Reason → Option WaitReason
reason_of policy is_behind moment track failed =
    reason_by (state_of policy track) is_behind (back_off_in moment track.runs track.stage) failed

abbrev pub container_wait : RestartPolicy → List ℕ → List Reason → ℕ → Bool → Container → Track → ContainerWait
container_wait policy uid reasons moment is_behind container track = record {
  name = container.name;
  reason = reason_of policy is_behind moment track (reason_for uid container.name reasons);
}

-- the containers of a pod, in the order of the manifest, after others, one of which may hold them back
abbrev pub waits_behind : RestartPolicy → List ℕ → List Reason → ℕ → Bool → List Container → List Track
    → List ContainerWait
waits_behind policy uid reasons moment is_behind [] ts = []
waits_behind policy uid reasons moment is_behind (c ∷ cs) [] = []
waits_behind policy uid reasons moment is_behind (c ∷ cs) (t ∷ ts) =
    container_wait policy uid reasons moment is_behind c t
    ∷ waits_behind policy uid reasons moment (is_behind || holds_back policy t) cs ts

abbrev pub waits_of : RestartPolicy → List ℕ → List Reason → ℕ → List Container → List Track
    → List ContainerWait
waits_of policy uid reasons moment containers tracks =
    waits_behind policy uid reasons moment false containers tracks

-- the minute in which the latest such call failed, counted from the first one
abbrev pub minute_of : Reason → ℕ
minute_of reason = (reason.latest - reason.since) / 60

-- the same call failed in the same way for the same cause since the same moment, and no minute has passed
abbrev pub is_same_failure : Reason → Reason → Bool
is_same_failure old new =
    bytes_eq (call_name old.call) (call_name new.call) && (is_same_trouble old.trouble new.trouble
    && (is_same_cause old.cause new.cause && (old.since == new.since && minute_of old == minute_of new)))

-- there is nothing new to report
abbrev pub is_same_reason : WaitReason → WaitReason → Bool
is_same_reason Setup Setup = true
is_same_reason (BackOff until code run) (BackOff other_until other_code other_run) =
    until == other_until && (code == other_code && run == other_run)
is_same_reason (Failed old) (Failed new) = is_same_failure old new
is_same_reason Due Due = true
is_same_reason Runs Runs = true
is_same_reason old new = false
