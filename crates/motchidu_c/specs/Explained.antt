-- The answer for C about a call under a profile: the number of what decides, the entry's index, and the
-- value. The numbers are those of enum motchidu_decider in include/motchidu.h. Profiles are those of OCI
-- runtime-spec 1.1, calls those of seccomp(2).
use Rattle.std.specs.Prelude.{◌≡◌, ℕ, List}
use Rattle.call_data.specs.CallData.{bytes_of_call}
use Rattle.call_data.specs.declared.sys_call.SysCall.{SysCall}
use Rattle.call_data.specs.declared.sys_call.TheConstants.{NATIVE_ARCH}
use Rattle.explain.specs.Explained.{Decides}
use Rattle.explain.specs.declared.explanation.Decider.{Decider}
use Rattle.explain.specs.declared.explanation.Decider.TheVariants.{Architecture, X32Bit, Entry, Default}
use Rattle.oci_profile.specs.Decision.{value_of}
use Rattle.oci_profile.specs.Meaning.{meaning}
use Rattle.oci_profile.specs.Profile.{ReadsProfileWith}
use Rattle.oci_profile.specs.declared.decision.Decision.{Decision}
use Rattle.oci_profile.specs.declared.profile.Profile.{Profile}
use Rattle.sys_table.specs.declared.calls.CallTable.{CallTable}

abbrev pub number_of_decider : Decider → ℕ
number_of_decider (Entry place) = 0
number_of_decider Default = 1
number_of_decider Architecture = 2
number_of_decider X32Bit = 3

-- the index of the entry that decides, or the old value
abbrev pub entry_or : Decider → ℕ → ℕ
entry_or (Entry place) before = place
entry_or _ before = before

-- the text is a profile if these are the known calls, under which this decides the call, and the value is the profile's
pub record IsDecidedUnder (known : CallTable) (text : List ℕ) (call : SysCall) (by : Decider) (value : ℕ) : Type 0 where
  pub profile : Profile
  pub reads : ReadsProfileWith known text profile
  pub decision : Decision
  pub decides : Decides profile call by decision
  pub value_is : value ≡ value_of decision
  pub means : value ≡ meaning profile call

-- the answer about a call under the text's profile
pub record IsAnswerOn (known : CallTable) (text : List ℕ) (call : SysCall) (decider before entry value : ℕ)
    : Type 0 where
  pub by : Decider
  pub decided : IsDecidedUnder known text call by value
  pub decider_is : decider ≡ number_of_decider by
  pub entry_is : entry ≡ entry_or by before

-- the bytes are a call, and this is the answer about it under the text's profile
pub record IsExplained (known : CallTable) (text bytes : List ℕ) (decider before entry value : ℕ) : Type 0 where
  pub call : SysCall
  pub bytes_are : bytes_of_call call ≡ bytes
  pub answer : IsAnswerOn known text call decider before entry value

-- the call of x86-64 with this number and these arguments
abbrev pub native_call : ℕ → List ℕ → SysCall
native_call nr args = record { nr = nr; arch = NATIVE_ARCH; ip = 0; args = args }
