-- The outcome of a script under a stack of filters, to which it may add filters of its own. What a verdict
-- does to a call is seccomp(2)'s; scripts are this project's own: docs/SEMANTICS.md, "Playing a script".
use Rattle.std.specs.Prelude.{◌≡◌, ℕ, ◌+◌, ◌-◌, ◌==◌, min, nat_le, if◌then◌else◌, Bool, true, false, List, []}
use Rattle.std.specs.Prelude.{◌∷◌, ◌++◌, length, slice_index, Option, Some, None}
use Rattle.action.specs.declared.action.Action.{Action}
use Rattle.action.specs.declared.action.Action.TheVariants.{KillProcess, KillThread, Trap}
use Rattle.action.specs.declared.verdict.Verdict.{Verdict}
use Rattle.action.specs.Verdict.{errno_of, performs_of}
use Rattle.bpf_code.specs.declared.insn.Insn.{Insn}
use Rattle.call_data.specs.declared.sys_call.SysCall.{SysCall}
use Rattle.call_data.specs.declared.sys_call.TheConstants.{NATIVE_ARCH}
use Rattle.script.specs.declared.scripts.Step.{Step}
use Rattle.script.specs.declared.scripts.Step.TheVariants.{Call, Exit, ExitByAttempt, Install}
use Rattle.verdict.specs.Stack.{IsJudged, counted}
use Rattle.verdict.specs.declared.stack.TheConstants.{MAX_STACK_INSNS}
use Rattle.runtime_cell.specs.declared.calls.JudgedCall.{JudgedCall}
use Rattle.runtime_cell.specs.declared.calls.TheConstants.{ENOMEM, KILLED, SECCOMP, SET_MODE_FILTER}

-- the entry of a judged call: it is performed exactly if the verdict allows it
abbrev pub entry_of : SysCall → Verdict → JudgedCall
entry_of call verdict = record { call = call; verdict = verdict; performed = performs_of verdict.action }

-- an errno of 0 is no error
abbrev pub on_errno : Option ℕ → Option ℕ → Option ℕ
on_errno None on_error = None
on_errno (Some errno) on_error = if errno == 0 then None else on_error

abbrev pub end_by : Action → Option ℕ → Option ℕ → Option ℕ
end_by KillProcess errno on_error = Some KILLED
end_by KillThread errno on_error = Some KILLED
end_by Trap errno on_error = Some KILLED
end_by _ errno on_error = on_errno errno on_error

-- the code with which a script ends after a call with this verdict, if it ends there
abbrev pub end_of : Verdict → Option ℕ → Option ℕ
end_of verdict on_error = end_by verdict.action (errno_of verdict) on_error

-- the code of this attempt, from 0, or the last one if there are fewer
abbrev pub code_at : List ℕ → ℕ → ℕ
code_at codes attempt = slice_index codes (min attempt (length codes - 1))

-- the call that installs a filter: seccomp(SECCOMP_SET_MODE_FILTER, 0, ..), with the address left open
abbrev pub install_call : SysCall
install_call = record {
  nr = SECCOMP;
  arch = NATIVE_ARCH;
  ip = 0;
  args =
      SET_MODE_FILTER ∷ 0 ∷ 0 ∷ 0 ∷ 0 ∷ 0 ∷ [];
}

-- what a step does: a call is judged, filters are added, and the script goes on; or it ends with a code
pub data Next : Type 0 where
  Goes : JudgedCall → List (List Insn) → Next
  Stops : JudgedCall → ℕ → Next
  Over : ℕ → Next

-- a call is judged, and after it the script ends with the code, if there is one
abbrev pub judged : JudgedCall → Option ℕ → Next
judged entry None = Goes entry []
judged entry (Some code) = Stops entry code

-- whether the filter fits on the stack: seccomp(2), ENOMEM
abbrev pub has_place : List (List Insn) → List Insn → Bool
has_place stack filter = nat_le (length filter + counted stack) MAX_STACK_INSNS

-- the filter is added if the call is performed and the filter fits on the stack; if it does not fit, the call
-- returns ENOMEM
abbrev pub installed : List Insn → JudgedCall → Option ℕ → Option ℕ → Bool → Bool → Next
installed filter entry end on_error true true = Goes entry (filter ∷ [])
installed filter entry end on_error true false = judged entry (on_errno (Some ENOMEM) on_error)
installed filter entry end on_error false place = judged entry end

-- what a step does under these filters; a script that has run out of steps ends with 0
abbrev pub IsNext : List (List Insn) → ℕ → Option Step → Next → Type 0
IsNext stack attempt None next = next ≡ Over 0
IsNext stack attempt (Some (Call call on_error)) next =
    (verdict : Verdict) × IsJudged stack call verdict
    × (next ≡ judged (entry_of call verdict) (end_of verdict on_error))
IsNext stack attempt (Some (Exit code)) next = next ≡ Over code
IsNext stack attempt (Some (ExitByAttempt codes)) next = next ≡ Over (code_at codes attempt)
IsNext stack attempt (Some (Install filter on_error)) next =
    (verdict : Verdict) × IsJudged stack install_call verdict
    × (next ≡ installed filter (entry_of install_call verdict) (end_of verdict on_error) on_error
    (performs_of verdict.action) (has_place stack filter))

-- every judged call, in order; the filters that the script adds; and the code with which it ends
pub record Outcome : Type 0 where
  pub entries : List JudgedCall
  pub added : List (List Insn)
  pub code : ℕ

-- entries, and then an outcome
abbrev pub joined : List JudgedCall → Outcome → Outcome
joined entries rest = record { entries = entries ++ rest.entries; added = rest.added; code = rest.code }

-- the outcome of a step, and of those that come after it with the filters that were added by then
abbrev pub ComesBy : Next → List (List Insn) → (List (List Insn) → Outcome → Type 0) → Outcome → Type 0
ComesBy (Goes entry more) added After outcome = (rest : Outcome) × After (added ++ more) rest
    × (outcome ≡ joined (entry ∷ []) rest)
ComesBy (Stops entry code) added After outcome =
    outcome ≡ record { entries = entry ∷ []; added = added; code = code }
ComesBy (Over code) added After outcome = outcome ≡ record { entries = []; added = added; code = code }

-- the outcome of steps under the stack at the start and the filters added since: a call is performed exactly
-- if they together allow it
abbrev pub IsOutcome : List (List Insn) → ℕ → List Step → List (List Insn) → Outcome → Type 0
IsOutcome start attempt [] added outcome = outcome ≡ record { entries = []; added = added; code = 0 }
IsOutcome start attempt (step ∷ steps) added outcome =
    (next : Next) × IsNext (start ++ added) attempt (Some step) next
    × ComesBy next added (IsOutcome start attempt steps) outcome
