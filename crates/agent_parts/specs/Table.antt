-- The table of a node: a line for each pod, in order of admission, and below it a line for each of its
-- containers, init ones first. The names are those of Kubernetes 1.27, pod lifecycle; the layout is this
-- project's own: docs/SEMANTICS.md, "The agent: the node".
use Rattle.std.specs.Prelude.{ℕ, ◌-◌, List, [], ◌++◌, codes, Option, Some, None}
use Rattle.std.specs.Fmt.{decimal}
use Rattle.std.specs.List.{flat_map, zip}
use Rattle.fault_notes.specs.Refusals.{refusal_text}
use Rattle.lifecycle.specs.declared.policy.RestartPolicy.{RestartPolicy}
use Rattle.lifecycle.specs.declared.state.ContainerState.{ContainerState}
use Rattle.lifecycle.specs.declared.state.ContainerState.TheVariants.{Waiting, Running, Terminated}
use Rattle.lifecycle.specs.declared.phases.Phase.{Phase}
use Rattle.lifecycle.specs.declared.track.Track.{Track}
use Rattle.lifecycle.specs.Names.{phase_name, state_name}
use Rattle.lifecycle.specs.Tracks.{started_of, state_of}
use Rattle.manifest.specs.declared.containers.Container.{Container}
use Rattle.manifest.specs.declared.pods.Pod.{Pod}
use Rattle.worker_pod.specs.Next.{phase_in}
use Rattle.node_watch.specs.declared.counts.CallCounts.{CallCounts}
use Rattle.node_watch.specs.declared.counts.Counted.{Counted}
use Rattle.node_watch.specs.declared.forms.Form.{Form}
use Rattle.node_watch.specs.declared.forms.Form.TheVariants.{Text, Json}
use Rattle.node_watch.specs.declared.reasons.Reason.{Reason}
use Rattle.node_watch.specs.declared.reasons.Trouble.{Trouble}
use Rattle.node_watch.specs.declared.reasons.Trouble.TheVariants.{Refused, Lost}
use Rattle.node_watch.specs.Calls.{call_name}
use Rattle.node_watch.specs.Counts.{counts_of, counts_text}
use Rattle.node_watch.specs.Reasons.{reason_for}
use Rattle.worker_core.specs.declared.slots.Slot.{Slot}
use Rattle.worker_core.specs.Kept.{KeptNode}

-- its exit code, or a dash
abbrev pub code_text : ContainerState → List ℕ
code_text (Terminated code) = decimal code
code_text Waiting = codes "-"
code_text Running = codes "-"

abbrev pub code_value : ContainerState → List ℕ
code_value (Terminated code) = decimal code
code_value Waiting = codes "null"
code_value Running = codes "null"

-- why a call failed
abbrev pub trouble_text : Trouble → List ℕ
trouble_text (Refused refusal) = codes "refused " ++ refusal_text refusal
trouble_text Lost = codes "lost"

-- the failed call, how it failed, and since when
abbrev pub reason_text : Form → Reason → List ℕ
reason_text Text reason =
    codes " " ++ (call_name reason.call ++
    (codes " " ++ (trouble_text reason.trouble
    ++ (codes " since " ++ (decimal reason.since ++ codes " s")))))
reason_text Json reason =
    codes ",\"call\":\"" ++ (call_name reason.call ++ (codes "\",\"came\":\"" ++ (trouble_text reason.trouble
    ++ (codes "\",\"since\":" ++ decimal reason.since))))

-- a terminated container waits for nothing
abbrev pub why_text : Form → ContainerState → Option Reason → List ℕ
why_text form (Terminated code) reason = []
why_text form state None = []
why_text form state (Some reason) = reason_text form reason

-- the number of attempts started after the first one
abbrev pub restarts_of : Track → ℕ
restarts_of track = started_of track - 1

-- name, state, code and restarts
abbrev pub state_words : List ℕ → ContainerState → ℕ → List ℕ
state_words name state restarts =
    codes "  " ++ (name ++ (codes " " ++ (state_name state
    ++ (codes " " ++ (code_text state ++ (codes " " ++ decimal restarts))))))

-- the same values as JSON members
abbrev pub uid_member : List ℕ → List ℕ
uid_member uid = codes "{\"pod\":\"" ++ (uid ++ codes "\"")

abbrev pub name_member : List ℕ → List ℕ
name_member name = codes ",\"container\":\"" ++ (name ++ codes "\"")

abbrev pub state_members : ContainerState → ℕ → List ℕ
state_members state restarts =
    codes ",\"state\":\"" ++ (state_name state
    ++ (codes "\",\"code\":" ++ (code_value state ++ (codes ",\"restarts\":" ++ decimal restarts))))

-- the counts of a container's calls, if there are any, and why it waits
abbrev pub rest_text : Form → ContainerState → Option CallCounts → Option Reason → List ℕ
rest_text form state counts reason = counts_text form counts ++ why_text form state reason

-- a container's state, and the rest
abbrev pub state_line : Form → List ℕ → List ℕ → ContainerState → ℕ → Option CallCounts → Option Reason
    → List ℕ
state_line Text uid name state restarts counts reason =
    state_words name state restarts ++ (rest_text Text state counts reason ++ codes "\n")
state_line Json uid name state restarts counts reason =
    uid_member uid ++ (name_member name ++
    (state_members state restarts ++ (rest_text Json state counts reason ++ codes "}\n")))

abbrev pub container_line : Form → List Reason → List Counted → List ℕ → RestartPolicy → Container × Track
    → List ℕ
container_line form reasons counts uid policy (container, track) =
    state_line form uid container.name (state_of policy track) (restarts_of track)
    (counts_of uid container.name counts) (reason_for uid container.name reasons)

-- uid and phase
abbrev pub pod_line : Form → Pod → Phase → List ℕ
pod_line Text pod phase = codes "POD " ++ (pod.uid ++ (codes " " ++ (phase_name phase ++ codes "\n")))
pod_line Json pod phase = codes "{\"pod\":\""
    ++ (pod.uid ++ (codes "\",\"phase\":\"" ++ (phase_name phase ++ codes "\"}\n")))

abbrev pub pod_lines : Form → List Reason → List Counted → Pod → List Track → Phase → List ℕ
pod_lines form reasons counts pod tracks phase =
    pod_line form pod phase ++ flat_map (container_line form reasons counts pod.uid pod.policy)
    (zip pod.containers.all tracks)

abbrev pub slot_lines : Form → List Reason → List Counted → Slot → List ℕ
slot_lines form reasons counts slot =
    pod_lines form reasons counts slot.state.pod slot.state.tracks (phase_in slot.state)

-- the table in this form, with these counts of calls and these reasons why containers wait
abbrev pub told_table : Form → List Reason → List Counted → KeptNode → List ℕ
told_table form reasons counts node = flat_map (slot_lines form reasons counts) node.slots

abbrev pub table_text : KeptNode → List ℕ
table_text node = told_table Text [] [] node
