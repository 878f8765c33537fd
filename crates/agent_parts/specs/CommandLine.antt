-- How nodeagent reads its command line, and how it ends: this project's own. docs/SEMANTICS.md, "Programs".
use Rattle.std.specs.Prelude.{ℕ, ◌==◌, ◌&&◌, Bool, true, false, if◌then◌else◌, List, [], ◌++◌, codes, Option, Some}
use Rattle.std.specs.Prelude.{None, unwrap_or}
use Rattle.std.specs.Fmt.{decimal}
use Rattle.command_line.specs.declared.nodeagent.NodeagentLine.{NodeagentLine}
use Rattle.cri_msgs.specs.declared.version.Version.{Version}
use Rattle.cri_msgs.specs.declared.version.Version.TheVariants.{V1, V2}
use Rattle.node_watch.specs.declared.forms.Form.{Form}
use Rattle.node_watch.specs.declared.forms.Form.TheVariants.{Text, Json}
use Rattle.node_watch.specs.declared.reasons.Reason.{Reason}
use Rattle.runtime_server.specs.declared.server.Tells.{Tells}
use Rattle.runtime_server.specs.declared.server.Tells.TheVariants as tells
use Rattle.runtime_stops.specs.declared.stops.ServerStop.TheVariants.{Memory}
use Rattle.worker_crew.specs.declared.observer.Observed.{Observed}
use Rattle.worker_crew.specs.declared.observer.Observed.TheVariants as observed
use Rattle.worker_crew.specs.declared.pace.Ended.{Ended}
use Rattle.worker_crew.specs.declared.pace.Ended.TheVariants as ended
use Rattle.worker_crew.specs.declared.pace.Pace.{Pace}
use Rattle.worker_crew.specs.declared.pace.Pace.TheVariants.{Virtual, Real}
use Rattle.worker_pod.specs.declared.settings.Settings.{Settings}
use Rattle.agent_parts.specs.declared.stops.AgentStop.{AgentStop}
use Rattle.agent_parts.specs.declared.stops.AgentStop.TheVariants.{Server, HistoryFull}

-- the version of its requests
abbrev pub version_for : NodeagentLine → Version
version_for line = if line.numbers.cri == 1 then V1 else V2

-- a running container is looked at again after a second, with --settle at the same moment
abbrev pub settings_for : NodeagentLine → Settings
settings_for line = record {
  seccomp_default = line.seccomp_default;
  poll = if line.settle then 0 else 1;
  version = version_for line;
}

-- which answers a runtime beside the agent reports
abbrev pub told_beside : Bool → Tells
told_beside true = tells.WrongFiles
told_beside false = tells.Nothing

-- with --settle the time is counted, by default for an hour; otherwise it is the machine's
abbrev pub pace_for : NodeagentLine → Pace
pace_for line = if line.settle then Virtual (unwrap_or line.numbers.until 3600)
    else Real line.numbers.until

-- the status of a run that nothing stopped
abbrev pub status_at : Ended → Option ℕ
status_at ended.Settled = Some 0
status_at ended.TimeUp = Some 5
status_at ended.Endless = Some 5
status_at ended.Memory = None
status_at ended.HistoryFull = None

abbrev pub form_for : NodeagentLine → Form
form_for line = if line.json then Json else Text

-- what is kept beside the history: why containers wait, their changes, or both
abbrev pub observed_for : NodeagentLine → Observed
observed_for line =
    if line.watch && line.reasons then observed.ChangesAndReasons (form_for line)
    else if line.watch then observed.Changes (form_for line) else if line.reasons then observed.Reasons
    else observed.Nothing

abbrev pub reasons_for : NodeagentLine → List Reason → List Reason
reasons_for line reasons = if line.reasons then reasons else []

-- why a run was stopped; the text may run out of memory, too
abbrev pub stop_at : Ended → AgentStop
stop_at ended.HistoryFull = HistoryFull
stop_at ended.Settled = Server Memory
stop_at ended.TimeUp = Server Memory
stop_at ended.Endless = Server Memory
stop_at ended.Memory = Server Memory

-- the first log line: the socket, and the number of pods
abbrev pub working_text : List ℕ → ℕ → List ℕ
working_text socket pods = codes "works over " ++ (socket ++ (codes ", pods: " ++ decimal pods))

-- the name of a run: the one given; if none is, with a folder of pods, one made for the run
abbrev pub run_name : Option (List ℕ) → Option (List ℕ) → List ℕ → Option (List ℕ)
run_name (Some run) pods made = Some run
run_name None (Some folder) made = Some made
run_name None None made = None
