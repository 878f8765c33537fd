-- A text with too many bytes is refused for that, at its root, whatever the known calls are.
use Rattle.std.proofs.Common.{◌≡◌, ◌∙◌, ℕ, ◌<◌, List, [], length, Option, Some, None, ap, refl, sym}
use Rattle.std.proofs.lemmas.Bool.{lt-ltb}
use Rattle.json_place.specs.Parts.{Part}
use Rattle.oci_profile.specs.declared.faults.ProfileFault.TheVariants.{TooLarge}
use Rattle.oci_profile.specs.declared.placed.ProfileFaultAt.{ProfileFaultAt}
use Rattle.oci_profile.specs.declared.reader.TheConstants.{MAX_PROFILE_BYTES}
use Rattle.oci_profile.specs.Faults.{fault_here}
use Rattle.oci_profile.specs.Reading.{first_fault_at, reading_of}
use Rattle.sys_table.specs.declared.calls.CallTable.{CallTable}

is_refused_whole : (calls : CallTable) (bytes : List ℕ) → MAX_PROFILE_BYTES < length bytes
    → first_fault_at calls bytes ≡ Some (fault_here TooLarge)
unfolding reading_of
is_refused_whole calls bytes more = rw (lt-ltb MAX_PROFILE_BYTES (length bytes) more) refl

place_in : Option ProfileFaultAt → List Part
place_in None = []
place_in (Some found) = found.place

pub is_at_root : (calls : CallTable) (bytes : List ℕ) (found : ProfileFaultAt) → MAX_PROFILE_BYTES < length bytes
    → first_fault_at calls bytes ≡ Some found → found.place ≡ []
unfolding place_in
is_at_root calls bytes found more first = ap place_in (sym first ∙ is_refused_whole calls bytes more)
