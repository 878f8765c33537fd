-- Which calls may make a sandbox, or remove it: this project's own.
use Rattle.cri_msgs.specs.declared.calls.Call.{Call}
use Rattle.cri_msgs.specs.declared.calls.Call.TheVariants.{RunPodSandbox, StopPodSandbox, RemovePodSandbox}
use Rattle.cri_msgs.specs.declared.calls.Call.TheVariants.{CreateContainer, StartContainer, StopContainer}
use Rattle.cri_msgs.specs.declared.calls.Call.TheVariants.{RemoveContainer, ContainerStatus, ListContainers}
use Rattle.cri_msgs.specs.declared.calls.Call.TheVariants.{ContainerStatuses}
use Rattle.runtime_core.specs.declared.calls.Kind.{Kind}
use Rattle.runtime_core.specs.declared.calls.Kind.TheVariants.{Runs, Removes, Other}

abbrev pub kind_of : Call → Kind
kind_of (RunPodSandbox uid) = Runs
kind_of (StopPodSandbox uid grace) = Other
kind_of (RemovePodSandbox uid) = Removes
kind_of (CreateContainer key image choice) = Other
kind_of (StartContainer key) = Other
kind_of (StopContainer key grace) = Other
kind_of (RemoveContainer key) = Other
kind_of (ContainerStatus key) = Other
kind_of (ListContainers uid) = Other
kind_of (ContainerStatuses uid) = Other
