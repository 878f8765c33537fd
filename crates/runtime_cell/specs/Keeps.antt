-- What the type of a cell ensures besides its promise, and the next act as the code computes it. Only private
-- functions cite this.
use Rattle.std.specs.Prelude.{◌≡◌, ℕ, ◌≤◌, List, [], ◌∷◌, ◌++◌, length, take, drop, Option, Some, None}
use Rattle.bpf_code.specs.declared.insn.Insn.{Insn}
use Rattle.oci_profile.specs.declared.profile.Profile.{Profile}
use Rattle.script.specs.declared.scripts.Step.{Step}
use Rattle.script.specs.declared.scripts.Step.TheVariants.{Call, Exit, ExitByAttempt, Install}
use Rattle.runtime_cell.specs.declared.acts.Act.{Act}
use Rattle.runtime_cell.specs.declared.acts.Act.TheVariants as act
use Rattle.runtime_cell.specs.declared.calls.JudgedCall.{JudgedCall}
use Rattle.runtime_cell.specs.declared.cell.State.{State}
use Rattle.runtime_cell.specs.declared.cell.State.TheVariants.{Created, Running, Exited}
use Rattle.runtime_cell.specs.declared.label.Label.{Label}
use Rattle.runtime_cell.specs.Cell.{Cell}
use Rattle.runtime_cell.specs.Outcome.{Next}
use Rattle.runtime_cell.specs.Outcome.Next.{Goes, Stops, Over}

-- the filter that a step installs, if it installs one
abbrev pub filter_in : Option Step → List (List Insn)
filter_in None = []
filter_in (Some (Call call on_error)) = []
filter_in (Some (Exit code)) = []
filter_in (Some (ExitByAttempt codes)) = []
filter_in (Some (Install filter on_error)) = filter ∷ []

-- the filters that steps install, in order
abbrev pub filters_in : List Step → List (List Insn)
filters_in [] = []
filters_in (step ∷ steps) = filter_in (Some step) ++ filters_in steps

-- there are copies of the filters to come, and room for them
pub record IsReady (script : List Step) (place : ℕ) (copies : List (List Insn)) (room : ℕ) : Type 0 where
  pub copied : copies ≡ filters_in (drop place script)
  pub spare : length copies ≤ room

-- while the script has not ended
abbrev pub IsReadyIn : State → List Step → ℕ → List (List Insn) → ℕ → Type 0
IsReadyIn Created script place copies room = IsReady script place copies room
IsReadyIn Running script place copies room = IsReady script place copies room
IsReadyIn (Exited code killed) script place copies room = Unit {0}

abbrev pub IsUnended : State → Type 0
IsUnended Created = Unit {0}
IsUnended Running = Unit {0}
IsUnended (Exited code killed) = ⊥

-- the record that is kept: the judged calls so far, and for how many there is room in all
pub record Recorded : Type 0 where
  pub items : List JudgedCall
  pub room : ℕ

-- the cell of the kept data: the filters of the start come before those that were added
abbrev pub seen : Label → List Step → Option Profile → List (List Insn) → ℕ → List JudgedCall → State → Cell
seen label script profile filters start entries state = record {
  making = record { label = label; script = script; stack = take start filters; profile = profile };
  state = state;
  entries = entries;
  added = drop start filters;
}

-- what is done at a step
abbrev pub next_by : Act → Option Step → Next
next_by (act.Goes entry) step = Goes entry []
next_by (act.Adds entry) step = Goes entry (filter_in step)
next_by (act.Stops entry code) step = Stops entry code
next_by (act.Over code) step = Over code
