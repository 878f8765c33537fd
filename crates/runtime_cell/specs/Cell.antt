-- The cell of a container, this project's own: what it was made from, its state, its record, and the
-- filters that its script added. docs/SEMANTICS.md, "Playing a script".
use Rattle.std.specs.Prelude.{◌≡◌, ℕ, List, [], ◌∷◌, ◌++◌, length, drop, slice_get, Option, Some, None, Bool}
use Rattle.std.specs.Prelude.{true, false}
use Rattle.bpf_code.specs.declared.insn.Insn.{Insn}
use Rattle.bpf_machine.specs.Runs.{Runs}
use Rattle.call_data.specs.CallData.{IsCall}
use Rattle.call_data.specs.declared.sys_call.SysCall.{SysCall}
use Rattle.oci_profile.specs.declared.profile.Profile.{Profile}
use Rattle.oci_profile.specs.Meaning.{meaning}
use Rattle.script.specs.declared.scripts.Step.{Step}
use Rattle.script.specs.Script.{HasSoundFilters}
use Rattle.verdict.specs.Stack.{AllSound}
use Rattle.runtime_cell.specs.declared.calls.JudgedCall.{JudgedCall}
use Rattle.runtime_cell.specs.declared.cell.Did.{Did}
use Rattle.runtime_cell.specs.declared.cell.Did.TheVariants.{Idle, Performed, Denied, Ended}
use Rattle.runtime_cell.specs.declared.label.Label.{Label}
use Rattle.runtime_cell.specs.declared.cell.State.{State}
use Rattle.runtime_cell.specs.declared.cell.State.TheVariants.{Created, Running, Exited}
use Rattle.runtime_cell.specs.Outcome.{IsNext, IsOutcome, Next, Outcome, joined}
use Rattle.runtime_cell.specs.Outcome.Next.{Goes, Stops, Over}

-- what a cell is made from, which never changes: the filters are those that are installed at its start, the
-- oldest one first
pub record Making : Type 0 where
  pub label : Label
  pub script : List Step
  pub stack : List (List Insn)
  pub profile : Option Profile

pub record Cell : Type 0 where
  pub making : Making
  pub state : State
  pub entries : List JudgedCall
  pub added : List (List Insn)

-- a cell as it is made
abbrev pub fresh : Making → State → Cell
fresh making state = record { making = making; state = state; entries = []; added = [] }

-- the label of a script that is played by itself: it has no name, image or profile
abbrev pub nameless : ℕ → Label
nameless attempt = record { id = 0; name = []; attempt = attempt; image = []; path = None }

abbrev pub alone : List Step → List (List Insn) → ℕ → Making
alone script stack attempt = record {
  label = nameless attempt;
  script = script;
  stack = stack;
  profile =
      None;
}

-- the filters by which its calls are judged
abbrev pub filters_of : Cell → List (List Insn)
filters_of c = c.making.stack ++ c.added

-- the step that comes next: its place is the number of entries, as a step without an entry ends the script
abbrev pub step_in : Cell → Option Step
step_in c = slice_get c.making.script (length c.entries)

-- the cell after the step
abbrev pub after : Cell → Next → Cell
after c (Goes entry more) = record {
  making = c.making;
  state = Running;
  entries = c.entries ++ entry ∷ [];
  added = c.added ++ more;
}
after c (Stops entry code) = record {
  making = c.making;
  state = Exited code false;
  entries =
      c.entries ++ entry ∷ [];
  added = c.added;
}
after c (Over code) = record {
  making = c.making;
  state = Exited code false;
  entries = c.entries;
  added =
      c.added;
}

abbrev pub told_of_entry : JudgedCall → Bool → Did
told_of_entry entry true = Performed
told_of_entry entry false = Denied entry.verdict

-- the reported result of a step
abbrev pub told_of : Next → Did
told_of (Goes entry more) = told_of_entry entry entry.performed
told_of (Stops entry code) = Ended code
told_of (Over code) = Ended code

abbrev pub StepsIn : State → Cell → Did → Cell → Type 0
StepsIn Running old did new = (next : Next)
    × IsNext (filters_of old) old.making.label.attempt (step_in old) next × (did ≡ told_of next)
    × (new ≡ after old next)
StepsIn Created old did new = (did ≡ Idle) × (new ≡ old)
StepsIn (Exited code killed) old did new = (did ≡ Idle) × (new ≡ old)

-- a step of a cell, and its reported result: a cell that does not run is unchanged
abbrev pub Steps : Cell → Did → Cell → Type 0
Steps old did new = StepsIn old.state old did new

abbrev pub with_state : Cell → State → Cell
with_state c state = record { making = c.making; state = state; entries = c.entries; added = c.added }

abbrev pub started_state : State → State
started_state Created = Running
started_state state = state

-- the cell, started: only once
abbrev pub started : Cell → Cell
started c = with_state c (started_state c.state)

abbrev pub killed_state : ℕ → State → State
killed_state code (Exited own killed) = Exited own killed
killed_state code _ = Exited code true

-- the cell, ended with the code from outside, unless it had already ended
abbrev pub killed : ℕ → Cell → Cell
killed code c = with_state c (killed_state code c.state)

-- the code of a state, once the script has ended
abbrev pub exit_of : State → Option ℕ
exit_of (Exited code killed) = Some code
exit_of _ = None

-- on every call the filter returns the profile's value
abbrev pub GivesMeaning : List Insn → Profile → Type 0
GivesMeaning code profile = (call : SysCall) → IsCall call → (steps : ℕ)
    × Runs code call (meaning profile call) steps

-- the newest filter of the stack is that of the profile, if there is one
abbrev pub Confines : List (List Insn) → Option Profile → Type 0
Confines stack None = Unit {0}
Confines stack (Some profile) = (older : List (List Insn)) × (code : List Insn) × (stack ≡ older ++ code ∷ [])
    × GivesMeaning code profile

-- what a cell may be made from
pub record IsWellMade (making : Making) : Type 0 where
  pub sound : AllSound making.stack
  pub fits : HasSoundFilters making.script
  pub confined : Confines making.stack making.profile

-- the outcome of the cell's script, and that of a rest of its steps
abbrev pub IsWhole : Cell → Outcome → Type 0
IsWhole c outcome = IsOutcome c.making.stack c.making.label.attempt c.making.script [] outcome

abbrev pub IsRest : Cell → Outcome → Type 0
IsRest c outcome = IsOutcome c.making.stack c.making.label.attempt (drop (length c.entries) c.making.script)
    c.added outcome

-- the record so far, followed by what is to come with the added filters, is the script's outcome
abbrev pub GoesOn : Cell → Type 0
GoesOn c = (rest : Outcome) × IsRest c rest × IsWhole c (joined c.entries rest)

-- once the script ended by itself, the record is the whole outcome
abbrev pub FollowsIn : State → Cell → Type 0
FollowsIn Created c = (c.entries ≡ []) × (c.added ≡ []) × GoesOn c
FollowsIn Running c = GoesOn c
FollowsIn (Exited code true) c = GoesOn c
FollowsIn (Exited code false) c = IsWhole c (record { entries = c.entries; added = c.added; code = code })

-- the cell's record is that of its script
abbrev pub FollowsScript : Cell → Type 0
FollowsScript c = FollowsIn c.state c
