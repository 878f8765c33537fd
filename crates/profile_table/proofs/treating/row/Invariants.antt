-- No entry before this one names the number without conditions, and one names it if conditions are asked.
use Rattle.std.proofs.Common.{◌≡◌, ℕ, ◌<◌, Some, true, false}
use Rattle.std.specs.Prelude.{slice_get}
use Rattle.oci_profile.specs.declared.profile.Entry.{Entry}
use Rattle.oci_profile.specs.Meaning.{names}
use Rattle.profile_table.proofs.Treated.{HasNamed}
use Rattle.profile_table.proofs.treating.row.Given as goal

abbrev pub invariant-loop-place : goal.invariant-loop-place
invariant-loop-place l =
    (l.is_asked ≡ false → (k : ℕ) (other : Entry) → k < l.place → slice_get l.profile.entries k ≡ Some other
    → names other l.nr ≡ false)
    × (l.is_asked ≡ true → HasNamed l.profile.entries l.nr l.place)
