-- Findings about a profile: OCI runtime-spec 1.1, config-linux, seccomp. That calls newer than the table want
-- ENOSYS is this project's own: docs/SEMANTICS.md, "What lint reports".
use Rattle.std.specs.Prelude.{◌≡◌, ℕ, ◌==◌, nat_le, ◌&&◌, if◌then◌else◌, Bool, true, false, Option, Some, None}
use Rattle.std.specs.Prelude.{List, [], ◌∷◌, ◌++◌, ◌||◌, slice_get, map, All, Contains}
use Rattle.std.specs.List.{list_any}
use Rattle.call_data.specs.declared.sys_call.SysCall.{SysCall}
use Rattle.oci_profile.specs.declared.profile.Entry.{Entry}
use Rattle.oci_profile.specs.declared.decision.Decision.{Decision}
use Rattle.oci_profile.specs.declared.decision.Decision.TheVariants.{KillProcess, KillThread, Trap, Errno}
use Rattle.oci_profile.specs.declared.decision.Decision.TheVariants.{Trace, Allow, Log}
use Rattle.oci_profile.specs.declared.profile.Profile.{Profile}
use Rattle.profile_advice.specs.Advice.{advice_of}
use Rattle.profile_lint.specs.declared.finding.Finding.{Finding}
use Rattle.profile_lint.specs.declared.finding.Finding.TheVariants as found
use Rattle.profile_lint.specs.Engines.{IsApart, IsReadOtherwise, Overlap, ReadsAlike}
use Rattle.profile_lint.specs.Entries.{DifferOn, MeanSame, NeverDecides, without}

-- the errno of calls that the table does not have, if it is not ENOSYS
abbrev pub newer_of : Decision → Option ℕ
newer_of (Errno errno) = if errno == 38 then None else Some errno
newer_of KillProcess = None
newer_of KillThread = None
newer_of Trap = None
newer_of (Trace message) = None
newer_of Allow = None
newer_of Log = None

-- the finding is true
abbrev pub IsSo : Profile → Finding → Type 0
IsSo profile (found.NeverDecides place) = NeverDecides profile place
IsSo profile (found.Redundant place) = MeanSame profile (without profile place)
IsSo profile (found.NotFoundOut place) = Unit {0}
IsSo profile (found.NotLookedAt place) = Unit {0}
IsSo profile (found.NotCompared place) = Unit {0}
IsSo profile (found.EnginesDiffer place call values) = IsReadOtherwise profile place call values
IsSo profile (found.Overlap place other call) = Overlap profile place other call
IsSo profile (found.NewerCalls errno) = newer_of profile.default ≡ Some errno
IsSo profile (found.Advised one) = Contains (advice_of profile) one

-- whether it is about the need for the entry at a place
abbrev pub is_on_need : ℕ → Finding → Bool
is_on_need place (found.NeverDecides at) = at == place
is_on_need place (found.Redundant at) = at == place
is_on_need place (found.NotFoundOut at) = at == place
is_on_need place (found.NotLookedAt from) = nat_le from place
is_on_need place (found.NotCompared at) = false
is_on_need place (found.EnginesDiffer at call values) = false
is_on_need place (found.Overlap at other call) = false
is_on_need place (found.NewerCalls errno) = false
is_on_need place (found.Advised one) = false

-- whether it is about how engines read the entry at a place
abbrev pub is_on_reading : ℕ → Finding → Bool
is_on_reading place (found.NeverDecides at) = false
is_on_reading place (found.Redundant at) = false
is_on_reading place (found.NotFoundOut at) = false
is_on_reading place (found.NotLookedAt from) = nat_le from place
is_on_reading place (found.NotCompared at) = at == place
is_on_reading place (found.EnginesDiffer at call values) = at == place
is_on_reading place (found.Overlap at other call) = false
is_on_reading place (found.NewerCalls errno) = false
is_on_reading place (found.Advised one) = false

-- whether it is about the overlap of the entries at two places
abbrev pub is_on_overlap : ℕ → ℕ → Finding → Bool
is_on_overlap place second (found.NeverDecides at) = false
is_on_overlap place second (found.Redundant at) = false
is_on_overlap place second (found.NotFoundOut at) = false
is_on_overlap place second (found.NotLookedAt from) = nat_le from place
is_on_overlap place second (found.NotCompared at) = at == place
is_on_overlap place second (found.EnginesDiffer at call values) = false
is_on_overlap place second (found.Overlap at other call) = (at == place) && (other == second)
is_on_overlap place second (found.NewerCalls errno) = false
is_on_overlap place second (found.Advised one) = false

abbrev pub is_on_newer : ℕ → Finding → Bool
is_on_newer errno (found.NeverDecides at) = false
is_on_newer errno (found.Redundant at) = false
is_on_newer errno (found.NotFoundOut at) = false
is_on_newer errno (found.NotLookedAt from) = false
is_on_newer errno (found.NotCompared at) = false
is_on_newer errno (found.EnginesDiffer at call values) = false
is_on_newer errno (found.Overlap at other call) = false
is_on_newer errno (found.NewerCalls other) = other == errno
is_on_newer errno (found.Advised one) = false

-- an entry about whose need nothing is reported is needed
abbrev pub HasNeed : Profile → List Finding → ℕ → Type 0
HasNeed profile finds place = list_any (is_on_need place) finds ≡ false
    → (entry : Entry) → slice_get profile.entries place ≡ Some entry
    → (call : SysCall) × DifferOn profile (without profile place) call

-- an entry about whose reading nothing is reported is not read differently
abbrev pub HasReading : Profile → List Finding → ℕ → Type 0
HasReading profile finds place = list_any (is_on_reading place) finds ≡ false → ReadsAlike profile place

-- two entries about whose overlap nothing is reported do not overlap
abbrev pub HasOverlap : Profile → List Finding → ℕ → ℕ → Type 0
HasOverlap profile finds place second = list_any (is_on_overlap place second) finds ≡ false
    → IsApart profile place second

-- nothing that is to be reported of the entry at a place is left out
pub record IsReported (profile : Profile) (finds : List Finding) (place : ℕ) : Type 0 where
  pub need : HasNeed profile finds place
  pub reading : HasReading profile finds place
  pub overlaps : (second : ℕ) → HasOverlap profile finds place second

-- nothing is left out
pub record AreAll (profile : Profile) (finds : List Finding) : Type 0 where
  pub entries : (place : ℕ) → IsReported profile finds place
  pub newer : (errno : ℕ) → newer_of profile.default ≡ Some errno → list_any (is_on_newer errno) finds ≡ true

-- findings that are true and all, and then all advice
pub record AreWhole (profile : Profile) (finds : List Finding) : Type 0 where
  pub first : List Finding
  pub so : All (IsSo profile) first
  pub all : AreAll profile first
  pub is : finds ≡ first ++ map (λ one. found.Advised one) (advice_of profile)

-- whether it says that an entry was not compared
abbrev pub is_uncompared : Finding → Bool
is_uncompared (found.NeverDecides at) = false
is_uncompared (found.Redundant at) = false
is_uncompared (found.NotFoundOut at) = false
is_uncompared (found.NotLookedAt from) = false
is_uncompared (found.NotCompared at) = true
is_uncompared (found.EnginesDiffer at call values) = false
is_uncompared (found.Overlap at other call) = false
is_uncompared (found.NewerCalls errno) = false
is_uncompared (found.Advised one) = false

-- the findings without those that say this once more
abbrev pub once_from : Bool → List Finding → List Finding
once_from seen [] = []
once_from seen (one ∷ finds) = if seen && is_uncompared one then once_from seen finds
    else one ∷ once_from (seen || is_uncompared one) finds
