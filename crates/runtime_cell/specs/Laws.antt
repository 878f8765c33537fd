-- What is true of cells whatever is done to them, for the layers above.
use Rattle.std.specs.Prelude.{◌≡◌, ℕ, List, [], ◌∷◌, ◌++◌, Option, Some, None, Bool}
use Rattle.action.specs.declared.verdict.Verdict.{Verdict}
use Rattle.bpf_code.specs.declared.insn.Insn.{Insn}
use Rattle.call_data.specs.declared.sys_call.SysCall.{SysCall}
use Rattle.script.specs.declared.scripts.Step.{Step}
use Rattle.script.specs.declared.scripts.Step.TheVariants.{Call, Exit, ExitByAttempt, Install}
use Rattle.verdict.specs.Stack.{IsJudged}
use Rattle.runtime_cell.specs.declared.calls.JudgedCall.{JudgedCall}
use Rattle.runtime_cell.specs.declared.cell.State.TheVariants.{Created, Running, Exited}
use Rattle.runtime_cell.specs.Outcome.{entry_of, install_call}
use Rattle.runtime_cell.specs.Cell.{Cell, filters_of, step_in}

-- a cell as it was, and the same one later
pub record IsLater (old new : Cell) : Type 0 where
  pub making : new.making ≡ old.making
  -- the record begins the later one, and so do the filters that were added
  pub entries : (more : List JudgedCall) × (new.entries ≡ old.entries ++ more)
  pub added : (more : List (List Insn)) × (new.added ≡ old.added ++ more)
  -- an end stays
  pub exit : (code : ℕ) (killed : Bool) → old.state ≡ Exited code killed → new ≡ old
  -- and so does a start
  pub start : new.state ≡ Created → new ≡ old

-- the call that a step makes, if it makes one
abbrev pub call_of : Option Step → Option SysCall
call_of None = None
call_of (Some (Call call on_error)) = Some call
call_of (Some (Exit code)) = None
call_of (Some (ExitByAttempt codes)) = None
call_of (Some (Install filter on_error)) = Some install_call

-- a step of the cell takes up the call
pub record TakesUp (c : Cell) (call : SysCall) : Type 0 where
  pub runs : c.state ≡ Running
  pub is_next : call_of (step_in c) ≡ Some call

-- the call is added to the record as the filters judge it: performed exactly if they together allow it
pub record IsAdded (old new : Cell) (call : SysCall) : Type 0 where
  pub verdict : Verdict
  pub judged : IsJudged (filters_of old) call verdict
  pub entries : new.entries ≡ old.entries ++ entry_of call verdict ∷ []
