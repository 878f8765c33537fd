-- How two profiles compare on every call. Only private functions cite this.
use Rattle.std.specs.Prelude.{◌≡◌, ℕ, List, [], ◌∷◌, ◌++◌, filter}
use Rattle.std.specs.List.{list_any}
use Rattle.std.specs.Prelude.{Bool}
use Rattle.oci_profile.specs.declared.profile.Entry.{Entry}
use Rattle.oci_profile.specs.declared.profile.Profile.{Profile}
use Rattle.oci_profile.specs.Meaning.{names}
use Rattle.profile_lint.specs.declared.sameness.Sameness.{Sameness}
use Rattle.profile_lint.specs.declared.sameness.Sameness.TheVariants.{Same, Differ, Unknown}
use Rattle.profile_lint.specs.declared.entries.Middle.{Middle}
use Rattle.profile_lint.specs.declared.entries.Middle.TheVariants.{Kept, Turned, LeftOut}
use Rattle.profile_lint.specs.Entries.{DifferOn, MeanSame, before, behind, turned_entry, with_entries}

abbrev pub Says : Sameness → Profile → Profile → Type 0
Says Same one other = MeanSame one other
Says (Differ call) one other = DifferOn one other call
Says Unknown one other = Unit {0}

-- whether the other entry names a call that this one names
unfoldable pub shares : Entry → Entry → Bool
shares entry other = list_any (names other) entry.numbers

-- the others that share a call with the entry
abbrev pub near : Entry → List Entry → List Entry
near entry others = filter (shares entry) others

-- what replaces the entry
abbrev pub middle_of : Entry → Middle → List Entry
middle_of entry Kept = entry ∷ []
middle_of entry Turned = turned_entry entry ∷ []
middle_of entry LeftOut = []

-- the profile of the entries near to this one, with this in its place
abbrev pub IsAround : Profile → ℕ → Entry → Middle → Profile → Type 0
IsAround profile place entry middle found = found ≡ with_entries profile
    (near entry (before profile place) ++ (middle_of entry middle ++ near entry (behind profile place)))
