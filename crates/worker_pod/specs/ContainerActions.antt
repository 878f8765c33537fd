-- Which container of a pod is worked on next, and what is done: this project's own, over the order of init
-- containers and restarts of Kubernetes 1.27, pod lifecycle. docs/SEMANTICS.md, "The agent: one pod".
use Rattle.std.specs.Prelude.{ℕ, ◌+◌, ◌==◌, nat_le, nat_lt, min, Bool, true, not, ◌&&◌, if◌then◌else◌, List}
use Rattle.std.specs.Prelude.{[], ◌∷◌, Option, Some, None, position}
use Rattle.std.specs.Option.{option_map}
use Rattle.lifecycle.specs.BackOff.{Run, last_of, later, ready_at}
use Rattle.lifecycle.specs.Restart.{may_restart}
use Rattle.lifecycle.specs.Tracks.{is_succeeded}
use Rattle.lifecycle.specs.declared.policy.RestartPolicy.{RestartPolicy}
use Rattle.lifecycle.specs.declared.track.Stage.{Stage}
use Rattle.lifecycle.specs.declared.track.Stage.TheVariants as stage
use Rattle.lifecycle.specs.declared.track.Track.{Track}
use Rattle.worker_pod.specs.declared.settings.TheConstants.{LAST_ATTEMPT}
use Rattle.worker_pod.specs.declared.container_actions.Pick.{Pick}
use Rattle.worker_pod.specs.declared.container_actions.ContainerAction.{ContainerAction}
use Rattle.worker_pod.specs.declared.container_actions.Work.{Work}
use Rattle.worker_pod.specs.declared.container_actions.Work.TheVariants.{Create, Start, Look, Clear}

-- the moment from which the status is asked for: at once, then `poll` seconds after the last report
abbrev pub look_from : ℕ → Option ℕ → ℕ
look_from poll None = 0
look_from poll (Some polled) = later polled poll

-- the moment from which another attempt may follow this one, whose run is the last, if one may
abbrev pub again_behind : RestartPolicy → Track → ℕ → Option Run → Option ℕ
again_behind policy track attempt None = None
again_behind policy track attempt (Some run) =
    if may_restart policy track.init run.code && nat_lt attempt LAST_ATTEMPT then Some (ready_at track.runs)
    else None

abbrev pub again : RestartPolicy → Track → ℕ → Option ℕ
again policy track attempt = again_behind policy track attempt (last_of track.runs)

abbrev pub wanted : Work → ℕ → ContainerAction
wanted work from = record { from = from; work = work }

-- the work due for a container, and the moment from which it is due
abbrev pub step_in : RestartPolicy → ℕ → Track → Stage → Option ContainerAction
step_in policy poll track stage.Absent = Some (record { from = 0; work = Create 0 })
step_in policy poll track (stage.Made attempt) = Some (record { from = 0; work = Start attempt })
step_in policy poll track (stage.Running attempt started polled) =
    Some (record { from = look_from poll polled; work = Look attempt })
step_in policy poll track (stage.Exited attempt) =
    option_map (wanted (Clear attempt)) (again policy track attempt)
step_in policy poll track (stage.Removed attempt) =
    option_map (wanted (Create (attempt + 1))) (again policy track attempt)

abbrev pub step_of : RestartPolicy → ℕ → Track → Option ContainerAction
step_of policy poll track = step_in policy poll track track.stage

-- the first init container that has not succeeded
abbrev pub front_of : RestartPolicy → List Track → Option ℕ
front_of policy tracks = position (λ t. t.init && not (is_succeeded policy t)) tracks

-- it alone is worked on; if there is none, all that are not init containers
abbrev pub is_in_turn : Option ℕ → ℕ → Track → Bool
is_in_turn None at track = not track.init
is_in_turn (Some first) at track = at == first

abbrev pub turn_of : RestartPolicy → ℕ → Option ℕ → ℕ → Track → Option ContainerAction
turn_of policy poll front at track = if is_in_turn front at track then step_of policy poll track else None

-- a container that was worked on longer ago than the best so far; of equal ones the first stays
abbrev pub is_longer : Option Pick → ℕ → Bool
is_longer None worked = true
is_longer (Some best) worked = nat_lt worked best.worked

abbrev pub better : ℕ → Option Pick → ℕ → Track → Option ContainerAction → Option Pick
better now best at track None = best
better now best at track (Some step) =
    if nat_le step.from now && is_longer best track.worked
    then Some (record { at = at; worked = track.worked; work = step.work }) else best

abbrev pub chosen_from : RestartPolicy → ℕ → ℕ → Option ℕ → ℕ → Option Pick → List Track → Option Pick
chosen_from policy poll now front at best [] = best
chosen_from policy poll now front at best (t ∷ ts) =
    chosen_from policy poll now front (at + 1) (better now best at t (turn_of policy poll front at t)) ts

-- of the containers whose turn it is and that are due, the one that was worked on longest ago
abbrev pub chosen : RestartPolicy → ℕ → ℕ → List Track → Option Pick
chosen policy poll now tracks = chosen_from policy poll now (front_of policy tracks) 0 None tracks

abbrev pub sooner : Option ℕ → Option ContainerAction → Option ℕ
sooner best None = best
sooner None (Some step) = Some step.from
sooner (Some best) (Some step) = Some (min best step.from)

abbrev pub soonest_from : RestartPolicy → ℕ → Option ℕ → ℕ → Option ℕ → List Track → Option ℕ
soonest_from policy poll front at best [] = best
soonest_from policy poll front at best (t ∷ ts) =
    soonest_from policy poll front (at + 1) (sooner best (turn_of policy poll front at t)) ts

-- the moment from which one of those whose turn it is is due
abbrev pub soonest : RestartPolicy → ℕ → List Track → Option ℕ
soonest policy poll tracks = soonest_from policy poll (front_of policy tracks) 0 None tracks
