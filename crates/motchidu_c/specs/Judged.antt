-- The machine's results on calls given as bytes, struct seccomp_data of seccomp(2), 64 bytes each, one after
-- the other.
use Rattle.std.specs.Prelude.{◌≡◌, ℕ, ◌+◌, ◌*◌, ◌<◌, ◌≤◌, List, length, slice_index, slice_range}
use Rattle.bpf_code.specs.declared.insn.Insn.{Insn}
use Rattle.bpf_machine.specs.Runs.{NeverStuck, Runs}
use Rattle.call_data.specs.CallData.{IsCall, bytes_of_call}
use Rattle.call_data.specs.declared.sys_call.SysCall.{SysCall}

-- the run of the code on the call with these bytes: it returns this value after this many steps, ends within
-- the code's length, and is never stuck
pub record IsJudged (code : List Insn) (bytes : List ℕ) (value steps : ℕ) : Type 0 where
  pub call : SysCall
  pub fits : IsCall call
  pub bytes_are : bytes_of_call call ≡ bytes
  pub runs : Runs code call value steps
  pub bounded : steps ≤ length code
  pub never_stuck : NeverStuck code call

-- the bytes of the call with this number, counted from 0
abbrev pub bytes_at : List ℕ → ℕ → List ℕ
bytes_at calls at = slice_range calls (64 * at) (64 * at + 64)

-- there is a value and a number of steps for each call
pub record HaveRoom (calls values steps : List ℕ) : Type 0 where
  pub values_fit : length calls ≡ 64 * length values
  pub steps_fit : length steps ≡ length values

-- each value and each number of steps is that of the run on its call
abbrev pub AreJudged : List Insn → List ℕ → List ℕ → List ℕ → Type 0
AreJudged code calls values steps =
    (at : ℕ) → at < length values → IsJudged code (bytes_at calls at) (slice_index values at)
    (slice_index steps at)
