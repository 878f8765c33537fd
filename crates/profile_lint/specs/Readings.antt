-- What is found out about how engines read entries. Only private functions cite this.
use Rattle.std.specs.Prelude.{◌≡◌, ◌≢◌, ℕ, false, true, List, ◌++◌}
use Rattle.std.specs.List.{list_any}
use Rattle.explain.specs.Explained.{IsJudged, applies}
use Rattle.oci_profile.specs.declared.profile.Entry.{Entry}
use Rattle.oci_profile.specs.declared.profile.Profile.{Profile}
use Rattle.oci_profile.specs.Decision.{value_of}
use Rattle.profile_lint.specs.declared.engines.Kind.TheVariants.{Asking}
use Rattle.profile_lint.specs.declared.engines.Overlapping.{Overlapping}
use Rattle.profile_lint.specs.declared.engines.Overlapping.TheVariants as lap
use Rattle.profile_lint.specs.declared.engines.Reading.{Reading}
use Rattle.profile_lint.specs.declared.engines.Reading.TheVariants as read
use Rattle.profile_lint.specs.Engines.{IsApart, IsReadOtherwise, Overlap, ReadsAlike, is_kept_of}
use Rattle.profile_lint.specs.Entries.{before, with_entries}
use Rattle.profile_lint.specs.Sameness.{near}

abbrev pub Reads : Reading → Profile → ℕ → Type 0
Reads (read.Differs call values) profile place = IsReadOtherwise profile place call values
Reads read.Same profile place = ReadsAlike profile place
Reads read.Unknown profile place = Unit {0}

abbrev pub OverlapsAs : Overlapping → Profile → ℕ → ℕ → Type 0
OverlapsAs (lap.On call) profile place second = Overlap profile place second call
OverlapsAs lap.Never profile place second = IsApart profile place second
OverlapsAs lap.Unknown profile place second = Unit {0}

-- both entries apply to the call, which is one of x86-64, and none of the profile does
abbrev pub OverlapsOn : Overlapping → Profile → Entry → Entry → Type 0
OverlapsOn (lap.On call) bare one two = IsJudged call × (applies call one ≡ true)
    × (applies call two ≡ true) × (list_any (applies call) bare.entries ≡ false)
OverlapsOn lap.Never bare one two = ⊥
OverlapsOn lap.Unknown bare one two = Unit {0}

-- the entries before a place, these, and those of engines: of each list only those near to the entry
abbrev pub in_queue : Profile → Profile → ℕ → Entry → List Entry → Profile
in_queue profile engines place entry middle = with_entries profile
    (near entry (before profile place) ++ (middle ++ near entry engines.entries))

-- engines have both entries, both have conditions, and they have different values
abbrev pub AreAsked : Profile → Entry → Entry → Type 0
AreAsked profile one two = (is_kept_of Asking profile one ≡ true) × (is_kept_of Asking profile two ≡ true)
    × (value_of one.decision ≢ value_of two.decision)
