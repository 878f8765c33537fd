-- The phase of a pod: Kubernetes 1.27, pod lifecycle, "Pod phase". The order of the rules, and that a
-- lost call makes it Unknown, are this project's own.
use Rattle.std.specs.Prelude.{Bool, not, ◌&&◌, ◌||◌, if◌then◌else◌, List}
use Rattle.std.specs.List.{list_any, list_all}
use Rattle.lifecycle.specs.declared.policy.RestartPolicy.{RestartPolicy}
use Rattle.lifecycle.specs.declared.track.Track.{Track}
use Rattle.lifecycle.specs.declared.phases.Phase.{Phase}
use Rattle.lifecycle.specs.declared.phases.Phase.TheVariants.{Pending, Running, Succeeded, Failed, Unknown}
use Rattle.lifecycle.specs.Tracks.{is_failed, is_finished, is_succeeded, was_started}

-- an init container finished with a code other than 0
abbrev pub has_failed_init : RestartPolicy → List Track → Bool
has_failed_init policy tracks = list_any (λ t. t.init && is_failed policy t) tracks

-- all containers but the init containers are finished
abbrev pub are_finished : RestartPolicy → List Track → Bool
are_finished policy tracks = list_all (λ t. t.init || is_finished policy t) tracks

-- all of them are, each with code 0
abbrev pub are_succeeded : RestartPolicy → List Track → Bool
are_succeeded policy tracks = list_all (λ t. t.init || is_succeeded policy t) tracks

-- an init container isn't finished, or another container was never started
abbrev pub is_pending : RestartPolicy → List Track → Bool
is_pending policy tracks = list_any (λ t. if t.init then not (is_finished policy t)
    else not (was_started t)) tracks

-- the first rule that applies
abbrev pub phase_of : RestartPolicy → Bool → List Track → Phase
phase_of policy lost tracks =
    if has_failed_init policy tracks then Failed
    else if are_finished policy tracks then (if are_succeeded policy tracks then Succeeded else Failed)
    else if lost then Unknown
    else if is_pending policy tracks then Pending
    else Running
