-- One history of a runtime that threads share, this project's own: docs/SEMANTICS.md, "Threads".
use Rattle.std.specs.Prelude.{◌≡◌, ℕ, List, [], ◌∷◌, ◌++◌, map, Option, Some}
use Rattle.bpf_code.specs.declared.insn.Insn.{Insn}
use Rattle.runtime_laws.specs.Runs as runs
use Rattle.runtime_laws.specs.Runs.{Event as happened}
use Rattle.cri_msgs.specs.declared.calls.Call.{Call}
use Rattle.cri_msgs.specs.declared.refusals.Refusal.TheVariants.{Memory}
use Rattle.cri_msgs.specs.declared.replies.Answer.TheVariants.{Refused}
use Rattle.runtime_cell.specs.declared.cell.State.TheVariants.{Running}
use Rattle.runtime_cell.specs.Cell.{Cell}
use Rattle.creation.specs.declared.files.FileAnswers.{FileAnswers}
use Rattle.registry.specs.Runtime.{In, Runtime, id_of}
use Rattle.runtime_laws.specs.Laws.{LinkLaws, RunLaws}
use Rattle.runtime_laws.specs.Runs.{IsRun, Link, now}
use Rattle.runtime_history.specs.declared.event.Event.{Event}
use Rattle.runtime_history.specs.declared.event.Event.TheVariants.{Served, Stepped}
use Rattle.runtime_history.specs.declared.event.Seen.{Seen}
use Rattle.runtime_history.specs.Lacking.{MayLack}

-- the event, as the laws of every run name it
abbrev pub named : Event → runs.Event
named (Served call files answer) = happened.Served call files answer
named (Stepped id did) = happened.Stepped id (Some did)

-- these links have these events
abbrev pub Tell : List Link → List Event → Type 0
Tell ls events = map (λ (l : Link). l.event) ls ≡ map named events

-- these events, the newest first, are possible from an empty runtime of a node with this filter
abbrev pub IsRunOf : Option (List Insn) → List Event → Type 0
IsRunOf baseline events = (ls : List Link) × IsRun baseline ls × Tell ls events

-- the history goes on
abbrev pub GoesOn : List Event → List Event → Type 0
GoesOn old new = (later : List Event) × (new ≡ later ++ old)

-- A caller's event comes after events of others, which the caller sees now, and is its only new one. All that
-- it has seen is a run.
pub record Grows (baseline : Option (List Insn)) (old : Seen) (event : Event) (new : Seen) : Type 0 where
  pub others : List Event
  pub all : new.all ≡ event ∷ (others ++ old.all)
  pub own : new.own ≡ event ∷ old.own
  pub run : IsRunOf baseline new.all

-- the cell with the id runs
pub record IsRunning (s : Runtime) (id : ℕ) : Type 0 where
  pub uid : List ℕ
  pub cell : Cell
  pub there : In cell (s.sandbox uid).cells
  pub is : id_of cell ≡ id
  pub runs : cell.state ≡ Running

-- after these events the cell with the id runs, in each run that has them
abbrev pub RunsAfter : Option (List Insn) → List Event → ℕ → Type 0
RunsAfter baseline events id = (links : List Link) → IsRun baseline links → Tell links events
    → IsRunning (now baseline links) id

-- A caller sees the history as it is now, and adds nothing to it. What was seen is a run, after which each
-- running cell has an id with this property.
pub record Looks (baseline : Option (List Insn)) (old : Seen) (Holds : ℕ → Type 0) (new : Seen) : Type 0 where
  pub goes_on : GoesOn old.all new.all
  pub own : new.own ≡ old.own
  pub links : List Link
  pub run : IsRun baseline links
  pub tell : Tell links new.all
  pub each : (id : ℕ) → IsRunning (now baseline links) id → Holds id

-- nothing was seen
abbrev pub unseen : Seen
unseen = record { all = []; own = [] }

-- These events are a run that has the laws of every run: for all that happened, and for each link given those
-- before it.
pub record AreLawful (baseline : Option (List Insn)) (events : List Event) : Type 0 where
  pub links : List Link
  pub run : IsRun baseline links
  pub tell : Tell links events
  pub all : RunLaws baseline links
  pub each : (later : List Link) (l : Link) (before : List Link) → links ≡ later ++ l ∷ before
      → LinkLaws l before
  -- memory runs out only in a call that takes some
  pub lacks : (l : Link) → In l links → (call : Call) (files : FileAnswers)
      → l.event ≡ happened.Served call files (Refused Memory) → MayLack l.old call files
