-- The effect of a claim's end on a pod's containers: this project's own. docs/SEMANTICS.md, "The agent: one
-- pod".
use Rattle.std.specs.Prelude.{ℕ, ◌+◌, ◌≤◌, ◌==◌, Bool, false, ◌||◌, if◌then◌else◌, List, [], ◌∷◌, ◌++◌}
use Rattle.std.specs.Prelude.{length, Option, Some, None}
use Rattle.std.specs.List.{AllByRecursion}
use Rattle.std.specs.Option.{is_some}
use Rattle.std.specs.Str.{bytes_eq}
use Rattle.lifecycle.specs.BackOff.{Run}
use Rattle.lifecycle.specs.declared.track.Stage.{Stage}
use Rattle.lifecycle.specs.declared.track.Stage.TheVariants as stage
use Rattle.lifecycle.specs.declared.track.Track.{Track}
use Rattle.manifest.specs.declared.containers.Container.{Container}
use Rattle.cri_msgs.specs.declared.calls.Call.{Call}
use Rattle.cri_msgs.specs.declared.calls.Call.TheVariants.{RunPodSandbox, StopPodSandbox, RemovePodSandbox}
use Rattle.cri_msgs.specs.declared.calls.Call.TheVariants.{CreateContainer, StartContainer, StopContainer}
use Rattle.cri_msgs.specs.declared.calls.Call.TheVariants.{RemoveContainer, ContainerStatus, ListContainers}
use Rattle.cri_msgs.specs.declared.calls.Call.TheVariants.{ContainerStatuses}
use Rattle.cri_msgs.specs.declared.calls.Request.{Request}
use Rattle.cri_msgs.specs.declared.keys.Key.{Key}
use Rattle.worker_pod.specs.declared.update.StatusUpdate.{StatusUpdate}
use Rattle.worker_pod.specs.declared.update.StatusUpdate.TheVariants as update
use Rattle.worker_pod.specs.declared.settings.Outcome.{Outcome}
use Rattle.worker_pod.specs.Updates.{told_of}

-- a container of which nothing was reported
abbrev pub fresh : Bool → Track
fresh init = record { init = init; stage = stage.Absent; runs = []; worked = 0 }

-- One container, by the update on its attempt `of`. Only an update on the current attempt counts.
abbrev pub made_at : ℕ → Stage → Stage
made_at of s = stage.Made of

abbrev pub started_at : ℕ → ℕ → Stage → Stage
started_at now of (stage.Made attempt) = if attempt == of then stage.Running attempt now None
    else stage.Made attempt
started_at now of s = s

-- its status was reported, and it has not exited
abbrev pub seen_at : ℕ → ℕ → Stage → Stage
seen_at now of (stage.Running attempt started polled) =
    if attempt == of then stage.Running attempt started (Some now) else stage.Running attempt started polled
seen_at now of s = s

abbrev pub exited_at : ℕ → Stage → Stage
exited_at of (stage.Running attempt started polled) =
    if attempt == of then stage.Exited attempt else stage.Running attempt started polled
exited_at of s = s

abbrev pub cleared_at : ℕ → Stage → Stage
cleared_at of (stage.Exited attempt) = if attempt == of then stage.Removed attempt else stage.Exited attempt
cleared_at of s = s

abbrev pub stage_at : ℕ → ℕ → StatusUpdate → Stage → Stage
stage_at now of update.Made s = made_at of s
stage_at now of update.Started s = started_at now of s
stage_at now of update.NotExited s = seen_at now of s
stage_at now of (update.Exited code) s = exited_at of s
stage_at now of update.Cleared s = cleared_at of s
stage_at now of n s = s

-- the run that ends by the update: its exit is recorded now
abbrev pub exit_at : ℕ → ℕ → ℕ → Stage → Option Run
exit_at now of code (stage.Running attempt started polled) =
    if attempt == of then Some (record { started = started; code = code; recorded = now }) else None
exit_at now of code s = None

abbrev pub run_at : ℕ → ℕ → StatusUpdate → Stage → Option Run
run_at now of (update.Exited code) s = exit_at now of code s
run_at now of n s = None

abbrev pub with_run : Option Run → List Run → List Run
with_run None runs = runs
with_run (Some run) runs = runs ++ run ∷ []

-- which attempt is going on: it was started, and its exit was not recorded
abbrev pub running_in : Stage → Option ℕ
running_in (stage.Running attempt started polled) = Some attempt
running_in s = None

abbrev pub named_in : Key → List ℕ → Option ℕ
named_in key name = if bytes_eq key.container.name name then Some key.container.attempt else None

-- Which attempt at the container of this name, at this stage, a claim of the call works on: the one that the
-- call names; if the call is for the statuses of all containers, the one that is going on.
abbrev pub worked_in : Call → List ℕ → Stage → Option ℕ
worked_in (RunPodSandbox uid) name s = None
worked_in (StopPodSandbox uid grace) name s = None
worked_in (RemovePodSandbox uid) name s = None
worked_in (CreateContainer key image profile) name s = named_in key name
worked_in (StartContainer key) name s = named_in key name
worked_in (StopContainer key grace) name s = named_in key name
worked_in (RemoveContainer key) name s = named_in key name
worked_in (ContainerStatus key) name s = named_in key name
worked_in (ListContainers uid) name s = None
worked_in (ContainerStatuses uid) name s = running_in s

-- The container of this name, after the claim of the request has ended so: its stage,
abbrev pub stage_by : ℕ → Request → Outcome → List ℕ → Stage → Option ℕ → Stage
stage_by now request how name s None = s
stage_by now request how name s (Some of) = stage_at now of (told_of name of request how) s

abbrev pub stage_after : ℕ → Request → Outcome → List ℕ → Stage → Stage
stage_after now request how name s = stage_by now request how name s (worked_in request.call name s)

-- the run that is recorded,
abbrev pub run_by : ℕ → Request → Outcome → List ℕ → Stage → Option ℕ → Option Run
run_by now request how name s None = None
run_by now request how name s (Some of) = run_at now of (told_of name of request how) s

abbrev pub run_after : ℕ → Request → Outcome → List ℕ → Stage → Option Run
run_after now request how name s = run_by now request how name s (worked_in request.call name s)

-- and the number of the last claim that worked on it
abbrev pub number_by : Request → ℕ → Option ℕ → ℕ
number_by request number None = number
number_by request number (Some of) = request.id

abbrev pub number_after : Request → List ℕ → Stage → ℕ → ℕ
number_after request name s number = number_by request number (worked_in request.call name s)

abbrev pub track_after : ℕ → Request → Outcome → List ℕ → Track → Track
track_after now request how name track = record {
  init = track.init;
  stage = stage_after now request how name track.stage;
  runs = with_run (run_after now request how name track.stage) track.runs;
  worked = number_after request name track.stage track.worked;
}

-- the pod's containers, each at the place of its track
abbrev pub tracks_after : ℕ → Request → Outcome → List Container → List Track → List Track
tracks_after now request how [] ts = ts
tracks_after now request how (c ∷ cs) [] = []
tracks_after now request how (c ∷ cs) (t ∷ ts) =
    track_after now request how c.name t ∷ tracks_after now request how cs ts

-- whether a run of one of them is recorded
abbrev pub records_in : ℕ → Request → Outcome → List Container → List Track → Bool
records_in now request how [] ts = false
records_in now request how (c ∷ cs) [] = false
records_in now request how (c ∷ cs) (t ∷ ts) =
    is_some (run_after now request how c.name t.stage) || records_in now request how cs ts

-- a running attempt was started by this moment
abbrev pub StartedBy : ℕ → Stage → Type 0
StartedBy now (stage.Running attempt started polled) = started ≤ now
StartedBy now s = Unit {0}

unfoldable pub AllStartedBy : ℕ → List Track → Type 0
AllStartedBy now tracks = AllByRecursion (λ (track : Track). StartedBy now track.stage) tracks

-- how many runs of the container began: those that are recorded, and the one that is going on
abbrev pub begun_of : Track → ℕ
begun_of track = length track.runs + (if is_some (running_in track.stage) then 1 else 0)

-- each of them has at most this many
unfoldable pub AllWithin : ℕ → List Track → Type 0
AllWithin most tracks = AllByRecursion (λ (track : Track). begun_of track ≤ most) tracks
