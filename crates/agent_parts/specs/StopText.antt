-- The message of nodeagent when it ends before its work is done, this project's own: docs/SEMANTICS.md,
-- "Programs".
use Rattle.std.specs.Prelude.{ℕ, List, ◌++◌, codes, string_bytes, Option, Some}
use Rattle.std.specs.Fmt.{decimal}
use Rattle.fault_notes.specs.Paths.{shown_path}
use Rattle.manifest.specs.Faults.{fault_text as pod_fault_text}
use Rattle.worker_core.specs.Answers.{refusal_text}
use Rattle.runtime_stops.specs.StopText.{stop_text as server_text}
use Rattle.agent_parts.specs.declared.stops.AgentStop.{AgentStop}
use Rattle.agent_parts.specs.declared.stops.AgentStop.TheVariants.{Server, Text, Manifest, Pod, State, RunName}
use Rattle.agent_parts.specs.declared.stops.AgentStop.TheVariants.{HistoryFull}

abbrev pub stop_text : AgentStop → Option (List ℕ)
stop_text (Server stop) = server_text (codes "nodeagent") stop
stop_text (Manifest path fault) = Some (codes "nodeagent: " ++ shown_path path.now ++ codes ": "
    ++ pod_fault_text fault
    ++ codes "\n")
stop_text (Text path told) = Some (codes "nodeagent: " ++ shown_path path.now ++ string_bytes told
    ++ codes "\n")
stop_text (Pod path refusal) = Some (codes "nodeagent: " ++ shown_path path.now ++ codes ": "
    ++ refusal_text refusal
    ++ codes "\n")
stop_text (State path line) = Some (codes "nodeagent: " ++ shown_path path.now ++ codes ": line "
    ++ decimal line
    ++ codes ": BadUid\n")
stop_text (RunName name) = Some (codes "nodeagent: " ++ shown_path name.now ++ codes ": BadName\n")
stop_text HistoryFull = Some (codes "nodeagent: HistoryFull\n")
