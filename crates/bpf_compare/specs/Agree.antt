-- Whether two filters return the same value on a call, each by its own run: bpf_machine, Runs.
use Rattle.std.specs.Prelude.{◌≡◌, ◌≢◌, ◌<◌, ◌≤◌, ◌^◌, ℕ, List}
use Rattle.bpf_code.specs.declared.insn.Insn.{Insn}
use Rattle.call_data.specs.declared.sys_call.SysCall.{SysCall}
use Rattle.call_data.specs.declared.sys_call.TheConstants.{NATIVE_ARCH}
use Rattle.call_data.specs.CallData.{IsCall}
use Rattle.bpf_machine.specs.Runs.{Runs}
use Rattle.bpf_compare.specs.declared.comparison.Comparison.{Comparison}
use Rattle.bpf_compare.specs.declared.comparison.Comparison.TheVariants.{Same, Differs, Undecided}
use Rattle.bpf_compare.specs.declared.scope.Calls.{Calls}
use Rattle.bpf_compare.specs.declared.scope.Calls.TheVariants as calls
use Rattle.bpf_compare.specs.declared.scope.Scope.{Scope}
use Rattle.bpf_compare.specs.declared.scope.Scope.TheVariants.{EveryCall, NativeCalls, Numbers, OtherArchitectures}

-- on this call the filter returns this value
pub record Returns (code : List Insn) (call : SysCall) (value : ℕ) : Type 0 where
  pub steps : ℕ
  pub run : Runs code call value steps

-- both return the same value on this call
pub record Agree (first second : List Insn) (call : SysCall) : Type 0 where
  pub value : ℕ
  pub of_first : Returns first call value
  pub of_second : Returns second call value

-- they return these two different values on this call
pub record Disagree (first second : List Insn) (call : SysCall) (one other : ℕ) : Type 0 where
  pub of_first : Returns first call one
  pub of_second : Returns second call other
  pub differ : one ≢ other

-- the call is in the scope: any call; a native one of x86-64, whose number is below the x32 bit; one of
-- x86-64 whose number is between two; or one of another architecture. linux/audit.h and asm/unistd.h
abbrev pub IsOf : Scope → SysCall → Type 0
IsOf EveryCall call = IsCall call
IsOf NativeCalls call = IsCall call × (call.arch ≡ NATIVE_ARCH) × (call.nr < 2 ^ 30)
IsOf (Numbers low high) call = IsCall call × (call.arch ≡ NATIVE_ARCH) × (low ≤ call.nr) × (call.nr ≤ high)
IsOf OtherArchitectures call = IsCall call × (call.arch ≢ NATIVE_ARCH)

-- the scope of the calls that a user asks about
abbrev pub scope_of : Calls → Scope
scope_of calls.Every = EveryCall
scope_of calls.Native = NativeCalls

-- what a comparison claims about two filters
abbrev pub Says : Comparison → Scope → List Insn → List Insn → Type 0
Says Same scope first second = (call : SysCall) → IsOf scope call → Agree first second call
Says (Differs call one other) scope first second = IsOf scope call × Disagree first second call one other
Says (Undecided why) scope first second = Unit {0}
