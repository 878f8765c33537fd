-- What the end of a claim shows of a pod: this project's own, over the calls of CRI v1. docs/SEMANTICS.md,
-- "The agent: one pod".
use Rattle.std.specs.Prelude.{ℕ, ◌==◌, ◌&&◌, Bool, true, false, if◌then◌else◌, List, Option, Some, None, find}
use Rattle.std.specs.Str.{bytes_eq}
use Rattle.cri_msgs.specs.declared.calls.Call.{Call}
use Rattle.cri_msgs.specs.declared.calls.Call.TheVariants.{RunPodSandbox, StopPodSandbox, RemovePodSandbox}
use Rattle.cri_msgs.specs.declared.calls.Call.TheVariants.{CreateContainer, StartContainer, StopContainer}
use Rattle.cri_msgs.specs.declared.calls.Call.TheVariants.{RemoveContainer, ContainerStatus, ListContainers}
use Rattle.cri_msgs.specs.declared.calls.Call.TheVariants.{ContainerStatuses}
use Rattle.cri_msgs.specs.declared.calls.Request.{Request}
use Rattle.cri_msgs.specs.declared.lists.ListedStatus.{ListedStatus}
use Rattle.cri_msgs.specs.declared.replies.Answer.{Answer}
use Rattle.cri_msgs.specs.declared.replies.Answer.TheVariants as answer
use Rattle.cri_msgs.specs.declared.states.State.{State}
use Rattle.cri_msgs.specs.declared.states.State.TheVariants as state
use Rattle.worker_pod.specs.declared.update.StatusUpdate.{StatusUpdate}
use Rattle.worker_pod.specs.declared.update.StatusUpdate.TheVariants as update
use Rattle.worker_pod.specs.declared.settings.Outcome.{Outcome}
use Rattle.worker_pod.specs.declared.settings.Outcome.TheVariants as outcome

-- For each call, the update in an answer of its kind. A refusal is of every kind; an answer of another kind
-- counts as a lost one.
abbrev pub done_tells : StatusUpdate → Answer → StatusUpdate
done_tells n answer.Done = n
done_tells n (answer.Refused refusal) = update.Refused
done_tells n said = update.Lost

abbrev pub made_tells : Answer → StatusUpdate
made_tells (answer.Container id) = update.Made
made_tells (answer.Refused refusal) = update.Refused
made_tells said = update.Lost

abbrev pub state_tells : State → StatusUpdate
state_tells (state.Exited code) = update.Exited code
state_tells s = update.NotExited

abbrev pub status_tells : Answer → StatusUpdate
status_tells (answer.Status status) = state_tells status.state
status_tells (answer.Refused refusal) = update.Refused
status_tells said = update.Lost

abbrev pub list_tells : Answer → StatusUpdate
list_tells (answer.List items) = update.Nothing
list_tells (answer.Refused refusal) = update.Refused
list_tells said = update.Lost

abbrev pub statuses_tell : Answer → StatusUpdate
statuses_tell (answer.Statuses items) = update.Nothing
statuses_tell (answer.Refused refusal) = update.Refused
statuses_tell said = update.Lost

abbrev pub answer_tells : Call → Answer → StatusUpdate
answer_tells (RunPodSandbox uid) said = done_tells update.SandboxReady said
answer_tells (StopPodSandbox uid grace) said = done_tells update.SandboxStopped said
answer_tells (RemovePodSandbox uid) said = done_tells update.SandboxRemoved said
answer_tells (CreateContainer key image profile) said = made_tells said
answer_tells (StartContainer key) said = done_tells update.Started said
answer_tells (StopContainer key grace) said = done_tells update.Nothing said
answer_tells (RemoveContainer key) said = done_tells update.Cleared said
answer_tells (ContainerStatus key) said = status_tells said
answer_tells (ListContainers uid) said = list_tells said
answer_tells (ContainerStatuses uid) said = statuses_tell said

-- The answer to the request, by which its claim ended. A reply with the number of another request counts as a
-- lost one.
abbrev pub heard : Request → Outcome → Option Answer
heard request (outcome.Replied reply) = if reply.id == request.id then Some reply.answer else None
heard request outcome.Lost = None
heard request outcome.Abandoned = None

-- its update on the pod
abbrev pub hearing : Call → Option Answer → StatusUpdate
hearing call None = update.Lost
hearing call (Some said) = answer_tells call said

abbrev pub told : Request → Outcome → StatusUpdate
told request how = hearing request.call (heard request how)

abbrev pub is_lost : StatusUpdate → Bool
is_lost update.Lost = true
is_lost n = false

-- Its update on an attempt at one of the pod's containers. A list of statuses has one on each: the first cell
-- of that name and attempt; an attempt that it lacks was seen, and has not exited.
abbrev pub is_cell_of : List ℕ → ℕ → ListedStatus → Bool
is_cell_of name attempt listed = listed.container.attempt == attempt && bytes_eq listed.container.name name

abbrev pub cell_tells : Option ListedStatus → StatusUpdate
cell_tells None = update.NotExited
cell_tells (Some listed) = state_tells listed.status.state

abbrev pub statuses_tell_of : List ℕ → ℕ → Answer → StatusUpdate
statuses_tell_of name attempt (answer.Statuses items) = cell_tells (find (is_cell_of name attempt) items)
statuses_tell_of name attempt said = statuses_tell said

abbrev pub answer_tells_of : List ℕ → ℕ → Call → Answer → StatusUpdate
answer_tells_of name attempt (ContainerStatuses uid) said = statuses_tell_of name attempt said
answer_tells_of name attempt call said = answer_tells call said

abbrev pub hearing_of : List ℕ → ℕ → Call → Option Answer → StatusUpdate
hearing_of name attempt call None = update.Lost
hearing_of name attempt call (Some said) = answer_tells_of name attempt call said

abbrev pub told_of : List ℕ → ℕ → Request → Outcome → StatusUpdate
told_of name attempt request how = hearing_of name attempt request.call (heard request how)
