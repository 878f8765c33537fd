-- How runc 1.1 makes a profile's filter with libseccomp 2.5: docs/SEMANTICS.md, "Where engines differ". An
-- entry that decides as the default is left out, and one without conditions decides its calls wherever it is.
-- If two entries with conditions apply to a call, either may decide.
use Rattle.std.specs.Prelude.{◌≡◌, ◌≢◌, ◌<◌, ℕ, ◌==◌, Bool, true, false, not, ◌&&◌, List, ◌++◌, filter}
use Rattle.std.specs.Prelude.{length}
use Rattle.std.specs.List.{list_any}
use Rattle.std.specs.Prelude.{slice_get, if◌then◌else◌, Option, Some, None, option_map, find}
use Rattle.call_data.specs.declared.sys_call.SysCall.{SysCall}
use Rattle.call_data.specs.CallData.{IsCall}
use Rattle.oci_profile.specs.declared.decision.Decision.{Decision}
use Rattle.oci_profile.specs.declared.profile.Entry.{Entry}
use Rattle.oci_profile.specs.declared.profile.Profile.{Profile}
use Rattle.oci_profile.specs.Decision.{value_of}
use Rattle.oci_profile.specs.Meaning.{meaning}
use Rattle.explain.specs.Explained.{AppliesFirst, IsJudged, applies}
use Rattle.profile_lint.specs.declared.engines.Kind.{Kind}
use Rattle.profile_lint.specs.declared.engines.Kind.TheVariants.{Bare, Asking}
use Rattle.profile_lint.specs.declared.finding.EngineValues.{EngineValues}
use Rattle.profile_lint.specs.Entries.{with_entries}

-- whether the entry has conditions or none
abbrev pub is_of : Kind → Entry → Bool
is_of Bare entry = length entry.conds == 0
is_of Asking entry = not (length entry.conds == 0)

-- whether the entry decides differently from the default, and so is not left out
abbrev pub is_kept : Profile → Entry → Bool
is_kept profile entry = not (value_of entry.decision == value_of profile.default)

-- whether engines have the entry, and it is of this kind
abbrev pub is_kept_of : Kind → Profile → Entry → Bool
is_kept_of kind profile entry = is_kept profile entry && is_of kind entry

-- the entries of this kind that are not left out
abbrev pub kept_of : Kind → Profile → List Entry
kept_of kind profile = filter (is_kept_of kind profile) profile.entries

-- the profile as engines read it, where its order decides between entries with conditions
abbrev pub as_engines_read : Profile → Profile
as_engines_read profile = with_entries profile (kept_of Bare profile ++ kept_of Asking profile)

-- whether engines have the entry, it is of this kind, and it applies to the call
abbrev pub is_taken : Kind → Profile → SysCall → Entry → Bool
is_taken kind profile call entry = is_kept_of kind profile entry && applies call entry

-- whether it is such an entry with conditions, and decides the call with another value than this one
abbrev pub is_taken_instead : Profile → SysCall → ℕ → Entry → Bool
is_taken_instead profile call value entry =
    is_taken Asking profile call entry && not (value_of entry.decision == value)

-- What engines may return for the call instead of this value: that of the first such entry, unless an entry
-- without conditions decides the call.
abbrev pub value_instead : Profile → SysCall → ℕ → Option ℕ
value_instead profile call value = if list_any (is_taken Bare profile call) profile.entries then None
    else option_map (λ entry. value_of entry.decision) (find (is_taken_instead profile call value) profile.entries)

-- the entry at this place decides the call, and engines have another value for it
pub record IsReadOtherwise (profile : Profile) (place : ℕ) (call : SysCall) (values : EngineValues) : Type 0 where
  pub decision : Decision
  pub decides : AppliesFirst profile.entries call place decision
  pub ours : meaning profile call ≡ values.here
  pub theirs : meaning (as_engines_read profile) call ≡ values.there
  pub instead : value_instead profile call values.there ≡ values.instead
  pub differ : values.here ≢ values.there

-- both entries apply to the call, and decide it differently
abbrev pub AreBoth : Entry → Entry → SysCall → Type 0
AreBoth one two call = (applies call one ≡ true) × (applies call two ≡ true)
    × (value_of one.decision ≢ value_of two.decision)

-- Engines have both entries, in this order, and both have conditions. Both apply to the call, which is one of
-- x86-64, and decide it differently, and no entry without conditions decides it.
pub record Overlap (profile : Profile) (place other : ℕ) (call : SysCall) : Type 0 where
  pub one : Entry
  pub two : Entry
  pub one_there : slice_get profile.entries place ≡ Some one
  pub two_there : slice_get profile.entries other ≡ Some two
  pub ordered : place < other
  pub one_asks : is_kept_of Asking profile one ≡ true
  pub two_asks : is_kept_of Asking profile two ≡ true
  pub both : AreBoth one two call
  pub judged : IsJudged call
  pub unsettled : list_any (applies call) (kept_of Bare profile) ≡ false

-- engines have the profile's value for each call that the entry at this place decides
abbrev pub ReadsAlike : Profile → ℕ → Type 0
ReadsAlike profile place = (call : SysCall) (values : EngineValues) → IsCall call
    → IsReadOtherwise profile place call values → ⊥

-- the entries at both places overlap on no call
abbrev pub IsApart : Profile → ℕ → ℕ → Type 0
IsApart profile place second = (call : SysCall) → IsCall call → Overlap profile place second call → ⊥
