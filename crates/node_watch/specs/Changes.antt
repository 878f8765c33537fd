-- The lines that report changes of a pod, this project's own: docs/SEMANTICS.md, "What changes". The names
-- are those of Kubernetes 1.27, pod lifecycle.
use Rattle.std.specs.Prelude.{ℕ, ◌==◌, ◌&&◌, Bool, true, false, if◌then◌else◌, List, [], ◌∷◌, ◌++◌, codes}
use Rattle.std.specs.Prelude.{Option, Some, None}
use Rattle.std.specs.Fmt.{decimal}
use Rattle.lifecycle.specs.declared.phases.Phase.{Phase}
use Rattle.lifecycle.specs.declared.phases.Phase.TheVariants as phase
use Rattle.lifecycle.specs.declared.state.ContainerState.{ContainerState}
use Rattle.lifecycle.specs.declared.state.ContainerState.TheVariants.{Waiting, Running, Terminated}
use Rattle.lifecycle.specs.Names.{phase_name, state_name}
use Rattle.node_watch.specs.declared.forms.Form.{Form}
use Rattle.node_watch.specs.declared.forms.Form.TheVariants.{Text, Json}
use Rattle.node_watch.specs.declared.counts.CallCounts.{CallCounts}
use Rattle.node_watch.specs.declared.seen.ContainerSeen.{ContainerSeen}
use Rattle.node_watch.specs.Counts.{counts_text, is_same_counts}
use Rattle.node_watch.specs.declared.seen.PodSeen.{PodSeen}

-- its exit code; none in another state
abbrev pub code_text : Form → ContainerState → List ℕ
code_text form (Terminated code) = decimal code
code_text Text state = codes "-"
code_text Json state = codes "null"

-- moment, uid and what happened to the pod
abbrev pub pod_line : Form → ℕ → List ℕ → List ℕ → List ℕ
pod_line Text moment uid what = decimal moment ++ (codes " " ++ (uid ++ (codes " " ++ (what ++ codes "\n"))))
pod_line Json moment uid what =
    codes "{\"moment\":" ++ (decimal moment
    ++ (codes ",\"pod\":\"" ++ (uid ++ (codes "\",\"phase\":\"" ++ (what ++ codes "\"}\n")))))

abbrev pub phase_line : Form → ℕ → List ℕ → Phase → List ℕ
phase_line form moment uid phase = pod_line form moment uid (phase_name phase)

-- the JSON members of a container: the moment, the pod and the name
abbrev pub which_members : ℕ → List ℕ → List ℕ → List ℕ
which_members moment uid name =
    codes "{\"moment\":" ++ (decimal moment
    ++ (codes ",\"pod\":\"" ++ (uid ++ (codes "\",\"container\":\"" ++ (name ++ codes "\"")))))

-- and its state
abbrev pub how_members : ContainerState → ℕ → List ℕ
how_members state restarts =
    codes ",\"state\":\"" ++ (state_name state ++ (codes "\",\"code\":" ++ (code_text Json state
    ++ (codes ",\"restarts\":" ++ decimal restarts))))

abbrev pub state_members : ContainerState → ℕ → Option CallCounts → List ℕ
state_members state restarts counts =
    how_members state restarts ++ (counts_text Json counts ++ codes "}\n")

-- moment, uid, name, state, code, restarts and the counts of calls
abbrev pub container_line : Form → ℕ → List ℕ → ContainerSeen → List ℕ
container_line Text moment uid seen =
    decimal moment ++ (codes " " ++ (uid ++
    (codes " " ++ (seen.name ++ (codes " " ++ (state_name seen.state ++ (codes " "
    ++ (code_text Text seen.state ++ (codes " " ++ (decimal seen.restarts
    ++ (counts_text Text seen.counts ++ codes "\n")))))))))))
container_line Json moment uid seen = which_members moment uid seen.name
    ++ state_members seen.state seen.restarts seen.counts

-- the pod has left the node
abbrev pub gone_line : Form → ℕ → List ℕ → List ℕ
gone_line form moment uid = pod_line form moment uid (codes "Deleted")

abbrev pub is_same_phase : Phase → Phase → Bool
is_same_phase phase.Pending phase.Pending = true
is_same_phase phase.Running phase.Running = true
is_same_phase phase.Succeeded phase.Succeeded = true
is_same_phase phase.Failed phase.Failed = true
is_same_phase phase.Unknown phase.Unknown = true
is_same_phase old new = false

abbrev pub is_same_state : ContainerState → ContainerState → Bool
is_same_state Waiting Waiting = true
is_same_state Running Running = true
is_same_state (Terminated code) (Terminated other) = code == other
is_same_state old new = false

abbrev pub is_same : ContainerSeen → ContainerSeen → Bool
is_same old new = is_same_state old.state new.state
    && (old.restarts == new.restarts && is_same_counts old.counts new.counts)

-- the line of a container, unless it was seen the same before
abbrev pub container_change : Form → ℕ → List ℕ → Option ContainerSeen → ContainerSeen → List ℕ
container_change form moment uid None new = container_line form moment uid new
container_change form moment uid (Some old) new = if is_same old new then []
    else container_line form moment uid new

-- place by place
abbrev pub container_changes : Form → ℕ → List ℕ → List ContainerSeen → List ContainerSeen → List ℕ
container_changes form moment uid old [] = []
container_changes form moment uid [] (c ∷ cs) =
    container_change form moment uid None c ++ container_changes form moment uid [] cs
container_changes form moment uid (o ∷ os) (c ∷ cs) = container_change form moment uid (Some o) c
    ++ container_changes form moment uid os cs

abbrev pub phase_change : Form → ℕ → List ℕ → Option Phase → Phase → List ℕ
phase_change form moment uid None new = phase_line form moment uid new
phase_change form moment uid (Some old) new = if is_same_phase old new then []
    else phase_line form moment uid new

-- what changed of a pod, given how it was seen before, if it was
abbrev pub pod_changes : Form → ℕ → Option PodSeen → PodSeen → List ℕ
pod_changes form moment None new =
    phase_change form moment new.uid None new.phase ++ container_changes form moment new.uid
    [] new.containers.items
pod_changes form moment (Some old) new =
    phase_change form moment new.uid (Some old.phase) new.phase
    ++ container_changes form moment new.uid old.containers.items new.containers.items
