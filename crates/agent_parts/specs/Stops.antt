-- The exit status of nodeagent when it ends before its work is done: this project's own. docs/SEMANTICS.md,
-- "Programs".
use Rattle.std.specs.Prelude.{◌≡◌, ℕ, List, ◌++◌, Option, Some, string_bytes}
use Rattle.fault_notes.specs.Notes.{IsNote}
use Rattle.fault_notes.specs.declared.named.Named.TheVariants as named
use Rattle.manifest.specs.declared.placed.PodFaultAt.{PodFaultAt}
use Rattle.manifest.specs.Reading.{first_fault_at}
use Rattle.runtime_stops.specs.Stops.{status_of as status_of_server}
use Rattle.runtime_stops.specs.declared.stops.ServerStop.TheVariants as server
use Rattle.wrong_files.specs.HintText.{hint_after}
use Rattle.wrong_files.specs.Hints.{IsHint, hints_for}
use Rattle.wrong_files.specs.declared.hint.Hint.{Hint}
use Rattle.wrong_files.specs.declared.hint.Wanted.TheVariants as wanted
use Rattle.agent_parts.specs.declared.stops.AgentStop.{AgentStop}
use Rattle.agent_parts.specs.declared.stops.AgentStop.TheVariants.{Server, Text, Manifest, Pod, State, RunName}
use Rattle.agent_parts.specs.declared.stops.AgentStop.TheVariants.{HistoryFull}

abbrev pub status_of : AgentStop → ℕ
status_of (Server stop) = status_of_server stop
status_of (Text path told) = 1
status_of (Manifest path fault) = 1
status_of (Pod path refusal) = 1
status_of (State path line) = 1
status_of (RunName name) = 2
status_of HistoryFull = 4

-- the note on the fault of a manifest's text, its place and the value there, and the hint on what the file
-- seems to be, if there is one
pub record IsManifestNote (bytes : List ℕ) (found : PodFaultAt) (text : List ℕ) : Type 0 where
  pub note : List ℕ
  pub is_note : IsNote bytes (named.Manifest found.fault) found.place note
  pub hint : Option Hint
  pub is_hint : IsHint bytes (hints_for wanted.Manifest) hint
  pub is : text ≡ note ++ hint_after hint

-- the program stops with the first fault of a manifest's text, or because it is out of memory
abbrev pub IsOfText : List ℕ → List ℕ → AgentStop → Type 0
IsOfText path bytes (Text word told) =
    (word.now ≡ path) × ((found : PodFaultAt) × (first_fault_at bytes ≡ Some found)
    × IsManifestNote bytes found (string_bytes told))
IsOfText path bytes stop = stop ≡ Server server.Memory
