-- The history of a container: Kubernetes 1.27, pod lifecycle, "Container states". When it counts as finished
-- is this project's own.
use Rattle.std.specs.Prelude.{ℕ, ◌+◌, ◌==◌, nat_lt, Bool, true, false, not, if◌then◌else◌, List, length}
use Rattle.std.specs.Prelude.{Option, Some, None}
use Rattle.std.specs.Option.{option_map}
use Rattle.lifecycle.specs.declared.policy.RestartPolicy.{RestartPolicy}
use Rattle.lifecycle.specs.declared.track.Stage.{Stage}
use Rattle.lifecycle.specs.declared.track.Stage.TheVariants as stage
use Rattle.lifecycle.specs.declared.track.Track.{Track}
use Rattle.lifecycle.specs.declared.state.ContainerState.{ContainerState}
use Rattle.lifecycle.specs.declared.state.ContainerState.TheVariants.{Waiting, Running, Terminated}
use Rattle.lifecycle.specs.BackOff.{Run, last_of}
use Rattle.lifecycle.specs.Restart.{may_restart}

-- the exit code of the last run, if no further run is going on
abbrev pub ended_in : Stage → List Run → Option ℕ
ended_in (stage.Running attempt started polled) runs = None
ended_in s runs = option_map (λ (run : Run). run.code) (last_of runs)

abbrev pub ended_code : Track → Option ℕ
ended_code t = ended_in t.stage t.runs

-- how many attempts were started: each that ended, and the current one
abbrev pub started_in : Stage → List Run → ℕ
started_in (stage.Running attempt started polled) runs = length runs + 1
started_in s runs = length runs

abbrev pub started_of : Track → ℕ
started_of t = started_in t.stage t.runs

-- it ended, with a code of this kind, after which it may not be started again
abbrev pub finished_with : RestartPolicy → Bool → (ℕ → Bool) → Option ℕ → Bool
finished_with policy init is_such None = false
finished_with policy init is_such (Some code) = if may_restart policy init code then false else is_such code

abbrev pub is_finished : RestartPolicy → Track → Bool
is_finished policy t = finished_with policy t.init (λ code. true) (ended_code t)

abbrev pub is_succeeded : RestartPolicy → Track → Bool
is_succeeded policy t = finished_with policy t.init (λ code. code == 0) (ended_code t)

abbrev pub is_failed : RestartPolicy → Track → Bool
is_failed policy t = finished_with policy t.init (λ code. not (code == 0)) (ended_code t)

abbrev pub was_started : Track → Bool
was_started t = nat_lt 0 (started_of t)

-- the state of a container that is not finished: running from the answer to its start until its exit is
-- recorded
abbrev pub unfinished_state : Stage → ContainerState
unfinished_state (stage.Running attempt started polled) = Running
unfinished_state s = Waiting

abbrev pub state_behind : RestartPolicy → Track → Option ℕ → ContainerState
state_behind policy t None = unfinished_state t.stage
state_behind policy t (Some code) = if may_restart policy t.init code then unfinished_state t.stage
    else Terminated code

abbrev pub state_of : RestartPolicy → Track → ContainerState
state_of policy t = state_behind policy t (ended_code t)
