-- Bytes that are a profile's filter: they spell sound code whose value on every call is the profile's.
-- Profiles are those of OCI runtime-spec 1.1, filters those of seccomp(2). The known calls come first.
use Rattle.std.specs.Prelude.{◌≡◌, ℕ, ◌<◌, ◌≤◌, List, length, take, drop}
use Rattle.bpf_code.specs.declared.insn.Insn.{Insn}
use Rattle.bpf_machine.specs.Runs.{Runs}
use Rattle.bpf_verify.specs.Refused.{IsTextOf}
use Rattle.bpf_verify.specs.Sound.{IsSound}
use Rattle.call_data.specs.CallData.{IsCall}
use Rattle.call_data.specs.declared.sys_call.SysCall.{SysCall}
use Rattle.oci_profile.specs.Meaning.{meaning}
use Rattle.oci_profile.specs.Profile.{ReadsProfileWith}
use Rattle.oci_profile.specs.declared.profile.Profile.{Profile}
use Rattle.sys_table.specs.declared.calls.CallTable.{CallTable}

pub record IsFilterOf (profile : Profile) (bytes : List ℕ) : Type 0 where
  pub code : List Insn
  pub text : IsTextOf bytes code
  pub sound : IsSound code
  pub means : (call : SysCall) → IsCall call → (steps : ℕ) × Runs code call (meaning profile call) steps

-- the bytes are a filter of the text's profile
pub record IsFilterOfText (calls : CallTable) (text bytes : List ℕ) : Type 0 where
  pub profile : Profile
  pub reads : ReadsProfileWith calls text profile
  pub filter : IsFilterOf profile bytes

-- the first bytes of the room are the filter of the text's profile, and the others are unchanged
pub record IsCompiled (calls : CallTable) (text old new : List ℕ) (len : ℕ) : Type 0 where
  pub inside : len ≤ length old
  pub filter : IsFilterOfText calls text (take len new)
  pub rest : drop len new ≡ drop len old

-- a filter of the text's profile takes this many bytes, for which there is no room
pub record NeedsRoom (calls : CallTable) (text room : List ℕ) (len : ℕ) : Type 0 where
  pub bytes : List ℕ
  pub filter : IsFilterOfText calls text bytes
  pub takes : length bytes ≡ len
  pub too_long : length room < len
