-- Entries without which a profile means the same, and entries that decide no call: OCI runtime-spec 1.1,
-- config-linux, seccomp, by the meaning of `oci_profile`, specs/Meaning.antt.
use Rattle.std.specs.Prelude.{◌≡◌, ◌≢◌, ℕ, ◌+◌, List, [], ◌∷◌, ◌++◌, take, drop}
use Rattle.std.specs.Prelude.{slice_get, Some}
use Rattle.call_data.specs.declared.sys_call.SysCall.{SysCall}
use Rattle.call_data.specs.CallData.{IsCall}
use Rattle.oci_profile.specs.declared.decision.Decision.{Decision}
use Rattle.oci_profile.specs.declared.decision.Decision.TheVariants.{KillProcess, KillThread, Trap, Errno}
use Rattle.oci_profile.specs.declared.decision.Decision.TheVariants.{Trace, Allow, Log}
use Rattle.oci_profile.specs.declared.profile.Entry.{Entry}
use Rattle.oci_profile.specs.declared.profile.Profile.{Profile}
use Rattle.oci_profile.specs.Meaning.{meaning}
use Rattle.profile_lint.specs.declared.stands.Standing.{Standing}
use Rattle.profile_lint.specs.declared.stands.Standing.TheVariants as standing

-- the profiles have the same value for every call
abbrev pub MeanSame : Profile → Profile → Type 0
MeanSame one other = (call : SysCall) → IsCall call → meaning one call ≡ meaning other call

-- they have different values for this call
abbrev pub DifferOn : Profile → Profile → SysCall → Type 0
DifferOn one other call = IsCall call × (meaning one call ≢ meaning other call)

abbrev pub with_entries : Profile → List Entry → Profile
with_entries profile entries = record { default = profile.default; entries = entries }

-- the entries before a place, and those after it
abbrev pub before : Profile → ℕ → List Entry
before profile place = take place profile.entries

abbrev pub behind : Profile → ℕ → List Entry
behind profile place = drop (place + 1) profile.entries

-- the profile with these in the place of the entry
abbrev pub in_place : Profile → ℕ → List Entry → Profile
in_place profile place middle =
    with_entries profile (before profile place ++ (middle ++ behind profile place))

-- the profile without the entry at this place
abbrev pub without : Profile → ℕ → Profile
without profile place = in_place profile place []

-- another decision
abbrev pub turned : Decision → Decision
turned Allow = KillProcess
turned KillProcess = Allow
turned KillThread = Allow
turned Trap = Allow
turned (Errno errno) = Allow
turned (Trace message) = Allow
turned Log = Allow

abbrev pub turned_entry : Entry → Entry
turned_entry entry = record {
  numbers = entry.numbers;
  decision = turned entry.decision;
  conds = entry.conds;
}

-- the entry at this place, if there is one, decides no call: whether it decides one thing or another, the
-- profile means the same
abbrev pub NeverDecides : Profile → ℕ → Type 0
NeverDecides profile place = (entry : Entry) → slice_get profile.entries place ≡ Some entry
    → MeanSame profile (in_place profile place (turned_entry entry ∷ []))

-- what is reported of the entry at a place
abbrev pub Stands : Profile → ℕ → Standing → Type 0
Stands profile place standing.NeverDecides = NeverDecides profile place
Stands profile place standing.Redundant = MeanSame profile (without profile place)
Stands profile place (standing.Needed call) = DifferOn profile (without profile place) call
Stands profile place standing.Unknown = Unit {0}
