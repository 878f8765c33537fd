-- The names and the numbers in messages. The names of calls, and (less their prefix) of states, are those of
-- CRI v1, `ContainerStatuses` is this project's own. The numbers of refusals are gRPC's status codes, except
-- 14, this project's own for running out of memory.
use Rattle.std.specs.Prelude.{ℕ, List, codes}
use Rattle.cri_msgs.specs.declared.calls.Call.{Call}
use Rattle.cri_msgs.specs.declared.calls.Call.TheVariants.{RunPodSandbox, StopPodSandbox, RemovePodSandbox}
use Rattle.cri_msgs.specs.declared.calls.Call.TheVariants.{CreateContainer, StartContainer, StopContainer}
use Rattle.cri_msgs.specs.declared.calls.Call.TheVariants.{RemoveContainer, ContainerStatus, ListContainers}
use Rattle.cri_msgs.specs.declared.calls.Call.TheVariants.{ContainerStatuses}
use Rattle.cri_msgs.specs.declared.refusals.Refusal.{Refusal}
use Rattle.cri_msgs.specs.declared.refusals.Refusal.TheVariants.{InvalidArgument, NotFound, AlreadyExists}
use Rattle.cri_msgs.specs.declared.refusals.Refusal.TheVariants.{ResourceExhausted, FailedPrecondition}
use Rattle.cri_msgs.specs.declared.refusals.Refusal.TheVariants.{Internal, Memory}
use Rattle.cri_msgs.specs.declared.states.ContainerState.{ContainerState}
use Rattle.cri_msgs.specs.declared.states.ContainerState.TheVariants as kind
use Rattle.cri_msgs.specs.declared.states.State.{State}
use Rattle.cri_msgs.specs.declared.states.State.TheVariants.{Created, Running, Exited}
use Rattle.cri_msgs.specs.declared.version.Version.{Version}
use Rattle.cri_msgs.specs.declared.version.Version.TheVariants.{V1, V2}

abbrev pub version_number : Version → ℕ
version_number V1 = 1
version_number V2 = 2

abbrev pub call_name : Call → List ℕ
call_name (RunPodSandbox uid) = codes "RunPodSandbox"
call_name (StopPodSandbox uid grace) = codes "StopPodSandbox"
call_name (RemovePodSandbox uid) = codes "RemovePodSandbox"
call_name (CreateContainer key image profile) = codes "CreateContainer"
call_name (StartContainer key) = codes "StartContainer"
call_name (StopContainer key grace) = codes "StopContainer"
call_name (RemoveContainer key) = codes "RemoveContainer"
call_name (ContainerStatus key) = codes "ContainerStatus"
call_name (ListContainers uid) = codes "ListContainers"
call_name (ContainerStatuses uid) = codes "ContainerStatuses"

abbrev pub refusal_number : Refusal → ℕ
refusal_number InvalidArgument = 3
refusal_number NotFound = 5
refusal_number AlreadyExists = 6
refusal_number ResourceExhausted = 8
refusal_number FailedPrecondition = 9
refusal_number Internal = 13
refusal_number Memory = 14

abbrev pub state_name : ContainerState → List ℕ
state_name kind.Created = codes "CREATED"
state_name kind.Running = codes "RUNNING"
state_name kind.Exited = codes "EXITED"

-- the state without its exit code
abbrev pub kind_of : State → ContainerState
kind_of Created = kind.Created
kind_of Running = kind.Running
kind_of (Exited code) = kind.Exited
