-- The calls of CRI v1 by their names, and which container each is about: this project's own.
-- docs/SEMANTICS.md, "Why a container waits".
use Rattle.std.specs.Prelude.{ℕ, ◌&&◌, Bool, true, false, List, codes, Option, Some, None}
use Rattle.std.specs.Str.{bytes_eq}
use Rattle.cri_msgs.specs.declared.calls.Call.{Call}
use Rattle.cri_msgs.specs.declared.calls.Call.TheVariants.{RunPodSandbox, StopPodSandbox, RemovePodSandbox}
use Rattle.cri_msgs.specs.declared.calls.Call.TheVariants.{CreateContainer, StartContainer, StopContainer}
use Rattle.cri_msgs.specs.declared.calls.Call.TheVariants.{RemoveContainer, ContainerStatus, ListContainers}
use Rattle.cri_msgs.specs.declared.calls.Call.TheVariants.{ContainerStatuses}
use Rattle.cri_msgs.specs.Calls.{uid_of}

abbrev pub call_name : Call → List ℕ
call_name (RunPodSandbox uid) = codes "RunPodSandbox"
call_name (StopPodSandbox uid grace) = codes "StopPodSandbox"
call_name (RemovePodSandbox uid) = codes "RemovePodSandbox"
call_name (CreateContainer key image profile) = codes "CreateContainer"
call_name (StartContainer key) = codes "StartContainer"
call_name (StopContainer key grace) = codes "StopContainer"
call_name (RemoveContainer key) = codes "RemoveContainer"
call_name (ContainerStatus key) = codes "ContainerStatus"
call_name (ListContainers uid) = codes "ListContainers"
call_name (ContainerStatuses uid) = codes "ContainerStatuses"

-- the container that a call is about; none if it is about all of the pod
abbrev pub container_of : Call → Option (List ℕ)
container_of (CreateContainer key image profile) = Some key.container.name
container_of (StartContainer key) = Some key.container.name
container_of (StopContainer key grace) = Some key.container.name
container_of (RemoveContainer key) = Some key.container.name
container_of (ContainerStatus key) = Some key.container.name
container_of call = None

abbrev pub is_same_container : Option (List ℕ) → Option (List ℕ) → Bool
is_same_container None None = true
is_same_container None (Some other) = false
is_same_container (Some name) None = false
is_same_container (Some name) (Some other) = bytes_eq name other

-- both calls are about the same container, or about all of the same pod
abbrev pub are_about_one : Call → Call → Bool
are_about_one call other = bytes_eq (uid_of call) (uid_of other)
    && is_same_container (container_of call) (container_of other)

abbrev pub is_all_or : List ℕ → Option (List ℕ) → Bool
is_all_or name None = true
is_all_or name (Some other) = bytes_eq name other

-- the call is about this container, by itself or among all of its pod
abbrev pub concerns : List ℕ → List ℕ → Call → Bool
concerns uid name call = bytes_eq uid (uid_of call) && is_all_or name (container_of call)
