-- The joint verdict of a stack's filters on a call: seccomp(2), "return values". All are run, the first rank
-- wins, and among values of that rank the newest filter's data.
use Rattle.std.specs.Prelude.{◌≡◌, ℕ, ◌+◌, ◌<◌, ◌≤◌, List, [], ◌∷◌, length, slice_index}
use Rattle.std.specs.List.{All}
use Rattle.action.specs.declared.action.Action.TheVariants.{Allow}
use Rattle.action.specs.declared.verdict.Verdict.{Verdict}
use Rattle.action.specs.Verdict.{rank_of, verdict_of}
use Rattle.bpf_code.specs.declared.insn.Insn.{Insn}
use Rattle.bpf_verify.specs.Sound.{IsSound}
use Rattle.call_data.specs.declared.sys_call.SysCall.{SysCall}
use Rattle.bpf_machine.specs.Runs.{Runs}

-- a stack: its filters, the oldest one first, and for how many more it has room
pub record Stacked : Type 0 where
  pub filters : List (List Insn)
  pub room : ℕ

-- the values that the filters return on the call, in their order
abbrev pub HaveValues : List (List Insn) → SysCall → List ℕ → Type 0
HaveValues [] call [] = Unit {0}
HaveValues [] call (value ∷ values) = ⊥
HaveValues (code ∷ stack) call [] = ⊥
HaveValues (code ∷ stack) call (value ∷ values) = ((steps : ℕ) × Runs code call value steps)
    × HaveValues stack call values

-- the rank of the value at this place
abbrev pub rank_at : List ℕ → ℕ → ℕ
rank_at values at = rank_of (verdict_of (slice_index values at)).action

-- the last one among those of first rank is at this place
pub record IsChosen (values : List ℕ) (at : ℕ) : Type 0 where
  pub within : at < length values
  pub first_rank : (other : ℕ) → other < length values → rank_at values at ≤ rank_at values other
  pub newest : (later : ℕ) → at < later → later < length values → rank_at values at < rank_at values later

-- the verdict of a list of values, the oldest one first; with none the call is allowed
pub data IsVerdictOf (values : List ℕ) (verdict : Verdict) : Type 0 where
  of_none : values ≡ [] → verdict ≡ record { action = Allow; ret_data = 0 } → IsVerdictOf values verdict
  of_chosen : (at : ℕ) → IsChosen values at → verdict ≡ verdict_of (slice_index values at)
      → IsVerdictOf values verdict

-- the stack's verdict on the call
abbrev pub IsJudged : List (List Insn) → SysCall → Verdict → Type 0
IsJudged stack call verdict = (values : List ℕ) × HaveValues stack call values × IsVerdictOf values verdict

-- the function that returns the stack's verdict on each call
abbrev pub Judges : List (List Insn) → (SysCall → Verdict) → Type 0
Judges stack verdicts = (call : SysCall) → IsJudged stack call (verdicts call)

-- each filter is sound
abbrev pub AllSound : List (List Insn) → Type 0
AllSound stack = All IsSound stack

-- what the kernel counts for filters already on the stack: each one's instructions, and four more
abbrev pub counted : List (List Insn) → ℕ
counted [] = 0
counted (code ∷ stack) = length code + 4 + counted stack
