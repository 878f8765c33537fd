-- What may happen to a runtime, and all that happened to it, this project's own: docs/SEMANTICS.md, "The
-- runtime".
use Rattle.std.specs.Prelude.{◌≡◌, ⊤, ℕ, List, [], ◌∷◌, Option}
use Rattle.bpf_code.specs.declared.insn.Insn.{Insn}
use Rattle.cri_msgs.specs.declared.calls.Call.{Call}
use Rattle.cri_msgs.specs.declared.replies.Answer.{Answer}
use Rattle.runtime_cell.specs.declared.cell.Did.{Did}
use Rattle.creation.specs.declared.files.FileAnswers.{FileAnswers}
use Rattle.registry.specs.Runtime.{Runtime, empty}
use Rattle.registry.specs.Serves.{Serves}
use Rattle.runtime_core.specs.Steps.{MayKill, MayStep}

-- a call was served, with the results of its files, and answered; the cell with an id did a step, or was
-- ended by a code
pub data Event : Type 0 where
  Served : Call → FileAnswers → Answer → Event
  Stepped : ℕ → Option Did → Event
  Killed : ℕ → ℕ → Option (Unit {0}) → Event

abbrev pub Happens : Runtime → Event → Runtime → Type 0
Happens old (Served call files answer) new = Serves old call files answer new
Happens old (Stepped id did) new = MayStep old id did new
Happens old (Killed id code found) new = MayKill old id code found new

-- the state before, what happened, and the state after
pub record Link : Type 0 where
  pub old : Runtime
  pub event : Event
  pub new : Runtime

abbrev pub now : Option (List Insn) → List Link → Runtime
now baseline [] = empty baseline
now baseline (l ∷ ls) = l.new

-- the newest one first: any requests, with any results of files, and any steps and ends, from the empty
-- runtime
abbrev pub IsRun : Option (List Insn) → List Link → Type 0
IsRun baseline [] = ⊤
IsRun baseline (l ∷ ls) = (l.old ≡ now baseline ls) × Happens l.old l.event l.new × IsRun baseline ls
