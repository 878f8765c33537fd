-- Answers about two filters given as bytes: those of a comparison of the code that they spell, bpf_compare,
-- Agree. Filters are those of seccomp(2).
use Rattle.std.specs.Prelude.{◌≡◌, ℕ, ◌≤◌, Bool, true, false, List, [], ◌∷◌, length}
use Rattle.std.specs.Prelude.{slice_index}
use Rattle.bpf_code.specs.declared.insn.Insn.{Insn}
use Rattle.bpf_code.specs.declared.limits.TheConstants.{MAX_INSNS}
use Rattle.bpf_compare.specs.Agree.{Says}
use Rattle.bpf_compare.specs.declared.comparison.Comparison.{Comparison}
use Rattle.bpf_compare.specs.declared.comparison.Comparison.TheVariants.{Differs}
use Rattle.bpf_compare.specs.declared.scope.Scope.{Scope}
use Rattle.bpf_compare.specs.declared.scope.Scope.TheVariants.{EveryCall, NativeCalls}
use Rattle.bpf_verify.specs.declared.fault.Fault.{Fault}
use Rattle.bpf_verify.specs.declared.refusal.Refusal.{Refusal}
use Rattle.bpf_verify.specs.Faults.{IsFirstFault}
use Rattle.bpf_verify.specs.Refused.{IsRefused, IsTextOf}
use Rattle.bpf_verify.specs.Sound.{IsSound}
use Rattle.call_data.specs.CallData.{bytes_of_call}
use Rattle.call_data.specs.declared.sys_call.SysCall.{SysCall}
use Rattle.motchidu_c.specs.declared.status.Status.{Status}
use Rattle.motchidu_c.specs.Status.{number_of, status_of, status_of_comparison}

-- the calls on which to compare: the native ones, or every call
abbrev pub scope_of : Bool → Scope
scope_of true = NativeCalls
scope_of false = EveryCall

-- the bytes spell sound code
pub record IsFilter (bytes : List ℕ) : Type 0 where
  pub code : List Insn
  pub text : IsTextOf bytes code
  pub sound : IsSound code

-- the bytes spell code of a filter's greatest length at most, and this is its first fault
pub record SpellsFault (bytes : List ℕ) (fault : Fault) : Type 0 where
  pub code : List Insn
  pub text : IsTextOf bytes code
  pub short : length code ≤ MAX_INSNS
  pub first : IsFirstFault code fault

-- the bytes are refused with this status
pub record IsRefusedAs (bytes : List ℕ) (status : Status) : Type 0 where
  pub refusal : Refusal
  pub refused : IsRefused bytes refusal
  pub told : status ≡ status_of refusal

-- one of the two is refused, the second one only if the first is sound; running out of memory is reported as
-- if for the first, and may be for either or for the comparison
pub data IsOneRefused (first second : List ℕ) (status : Status) : Type 0 where
  is_first : IsRefusedAs first status → IsOneRefused first second status
  is_second : IsFilter first → IsRefusedAs second status → IsOneRefused first second status

-- both are filters, and this is true of them
pub record AreCompared (found : Comparison) (scope : Scope) (first second : List ℕ) : Type 0 where
  pub one : IsFilter first
  pub other : IsFilter second
  pub says : Says found scope one.code other.code

-- both are filters, and on the call with these bytes they return these two values, which differ
pub record AreShownToDiffer (scope : Scope) (first second call values : List ℕ) : Type 0 where
  pub shown : SysCall
  pub bytes_are : bytes_of_call shown ≡ call
  pub compared : AreCompared (Differs shown (slice_index values 0) (slice_index values 1)) scope first second

-- the bytes of the call that was found, or the old ones
abbrev pub call_or : Comparison → List ℕ → List ℕ
call_or (Differs shown one other) before = bytes_of_call shown
call_or _ before = before

-- the values that were found, or the old ones
abbrev pub values_or : Comparison → List ℕ → List ℕ
values_or (Differs shown one other) before = one ∷ other ∷ []
values_or _ before = before

-- it is the number of a comparison: Same, Differ, Budget or Arithmetic
pub record IsOfComparison (answer : ℕ) : Type 0 where
  pub found : Comparison
  pub told : answer ≡ number_of (status_of_comparison found)

-- it is the number of a refusal of one of the two
pub record TellsRefusal (first second : List ℕ) (answer : ℕ) : Type 0 where
  pub status : Status
  pub told : answer ≡ number_of status
  pub one_refused : IsOneRefused first second status
