-- Which answers show that a pod is lost: this project's own. docs/SEMANTICS.md, "When one side is started
-- again".
use Rattle.std.specs.Prelude.{ℕ, ◌==◌, List, Option, Some, None, codes, length, if◌then◌else◌}
use Rattle.cri_msgs.specs.declared.calls.Call.{Call}
use Rattle.cri_msgs.specs.declared.calls.Call.TheVariants.{RunPodSandbox, CreateContainer, StartContainer}
use Rattle.cri_msgs.specs.declared.calls.Call.TheVariants.{ContainerStatus, ContainerStatuses}
use Rattle.cri_msgs.specs.declared.refusals.Refusal.{Refusal}
use Rattle.cri_msgs.specs.declared.refusals.Refusal.TheVariants.{NotFound, FailedPrecondition}
use Rattle.cri_msgs.specs.declared.replies.Answer.{Answer}
use Rattle.cri_msgs.specs.declared.replies.Answer.TheVariants.{Refused, Statuses}
use Rattle.node_watch.specs.declared.losses.Loss.{Loss}
use Rattle.node_watch.specs.declared.losses.Loss.TheVariants.{Unknown, Removed}

-- a call that needs its sandbox was refused
abbrev pub loss_by : Refusal → Option Loss
loss_by NotFound = Some Unknown
loss_by FailedPrecondition = Some Removed
loss_by other = None

abbrev pub removed_by : Refusal → Option Loss
removed_by FailedPrecondition = Some Removed
removed_by other = None

abbrev pub when_refused : (Refusal → Option Loss) → Answer → Option Loss
when_refused loss (Refused refusal) = loss refusal
when_refused loss other = None

-- the agent asks for the statuses of a pod only while one of its containers runs
abbrev pub when_listed : Answer → Option Loss
when_listed (Statuses list) = if length list == 0 then Some Unknown else None
when_listed other = None

-- whether an answer shows that the runtime no longer has the pod's sandbox
abbrev pub loss_of : Call → Answer → Option Loss
loss_of (RunPodSandbox uid) answer = when_refused removed_by answer
loss_of (CreateContainer key image profile) answer = when_refused loss_by answer
loss_of (StartContainer key) answer = when_refused loss_by answer
loss_of (ContainerStatus key) answer = when_refused loss_by answer
loss_of (ContainerStatuses uid) answer = when_listed answer
loss_of other answer = None

abbrev pub loss_text : Loss → List ℕ
loss_text Unknown = codes "the runtime does not know its sandbox"
loss_text Removed = codes "the runtime has removed or stopped its sandbox"
