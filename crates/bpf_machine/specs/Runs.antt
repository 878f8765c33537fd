-- Runs of the machine: states linked by steps, from the start to a value.
use Rattle.std.specs.Prelude.{◌≡◌, ℕ, zero, suc, ◌+◌, List}
use Rattle.bpf_code.specs.declared.insn.Insn.{Insn}
use Rattle.call_data.specs.declared.sys_call.SysCall.{SysCall}
use Rattle.bpf_machine.specs.Machine.{State, Next, Step, start}
use Rattle.bpf_machine.specs.Machine.Next.{Goes, Ends}

-- after this many steps from the start the machine is in this state
abbrev pub Reaches : List Insn → SysCall → ℕ → State → Type 0
Reaches code call zero s = s ≡ start
Reaches code call (suc n) s = (before : State) × Reaches code call n before × Step call code before (Goes s)

-- the run of the code on the call ends with this value, after this many steps, the last one counted
pub record Runs (code : List Insn) (call : SysCall) (value steps : ℕ) : Type 0 where
  pub last : State
  pub before : ℕ
  pub reached : Reaches code call before last
  pub ends : Step call code last (Ends value)
  pub counted : steps ≡ before + 1

-- each state that is reached has a next one, or ends the run
abbrev pub NeverStuck : List Insn → SysCall → Type 0
NeverStuck code call = (n : ℕ) (s : State) → Reaches code call n s → (next : Next) × Step call code s next
