-- The printed names of phases and states: Kubernetes 1.27, pod lifecycle, "Pod phase" and "Container states".
use Rattle.std.specs.Prelude.{ℕ, List, codes}
use Rattle.lifecycle.specs.declared.phases.Phase.{Phase}
use Rattle.lifecycle.specs.declared.phases.Phase.TheVariants as phase
use Rattle.lifecycle.specs.declared.state.ContainerState.{ContainerState}
use Rattle.lifecycle.specs.declared.state.ContainerState.TheVariants as state

abbrev pub phase_name : Phase → List ℕ
phase_name phase.Pending = codes "Pending"
phase_name phase.Running = codes "Running"
phase_name phase.Succeeded = codes "Succeeded"
phase_name phase.Failed = codes "Failed"
phase_name phase.Unknown = codes "Unknown"

abbrev pub state_name : ContainerState → List ℕ
state_name state.Waiting = codes "Waiting"
state_name state.Running = codes "Running"
state_name (state.Terminated code) = codes "Terminated"
