-- What every call names, this project's own.
use Rattle.std.specs.Prelude.{ℕ, List}
use Rattle.cri_msgs.specs.declared.calls.Call.{Call}
use Rattle.cri_msgs.specs.declared.calls.Call.TheVariants.{RunPodSandbox, StopPodSandbox, RemovePodSandbox}
use Rattle.cri_msgs.specs.declared.calls.Call.TheVariants.{CreateContainer, StartContainer, StopContainer}
use Rattle.cri_msgs.specs.declared.calls.Call.TheVariants.{RemoveContainer, ContainerStatus, ListContainers}
use Rattle.cri_msgs.specs.declared.calls.Call.TheVariants.{ContainerStatuses}

-- the pod whose sandbox a call names
abbrev pub uid_of : Call → List ℕ
uid_of (RunPodSandbox uid) = uid
uid_of (StopPodSandbox uid grace) = uid
uid_of (RemovePodSandbox uid) = uid
uid_of (CreateContainer key image choice) = key.uid
uid_of (StartContainer key) = key.uid
uid_of (StopContainer key grace) = key.uid
uid_of (RemoveContainer key) = key.uid
uid_of (ContainerStatus key) = key.uid
uid_of (ListContainers uid) = uid
uid_of (ContainerStatuses uid) = uid
