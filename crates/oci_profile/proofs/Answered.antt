-- The first fault of a short text, by the result of reading it.
use Rattle.std.proofs.Common.{◌≡◌, ◌≢◌, ℕ, ◌<◌, ◌≤◌, List, length, Some, None, Result, Ok, Err, refl, ap}
use Rattle.std.proofs.Common.{subst, ◌∙◌}
use Rattle.std.specs.Prelude.{IfOk, IfErr}
use Rattle.std.specs.Result.{result_err}
use Rattle.std.proofs.lemmas.Bool.{lt-ltb, le-ltb}
use Rattle.sys_table.specs.declared.calls.CallTable.{CallTable}
use Rattle.oci_profile.specs.declared.faults.ProfileFault.TheVariants.{TooLarge, Memory}
use Rattle.oci_profile.specs.declared.profile.Profile.{Profile}
use Rattle.oci_profile.specs.declared.reader.TheConstants.{MAX_PROFILE_BYTES}
use Rattle.oci_profile.specs.declared.placed.ProfileFaultAt.{ProfileFaultAt}
use Rattle.oci_profile.specs.Faults.{fault_here}
use Rattle.oci_profile.specs.Reading.{Reads, IsRefusedFor, first_fault_at, reading_of, short_of}
use Rattle.oci_profile.proofs.Avoids.{Avoids, short_avoids}

module _ (calls : CallTable) where
  pub long_fault : (bytes : List ℕ) → MAX_PROFILE_BYTES < length bytes
      → first_fault_at calls bytes ≡ Some (fault_here TooLarge)
  unfolding reading_of
  long_fault bytes long = rw (lt-ltb MAX_PROFILE_BYTES (length bytes) long) refl

  short_reading : (bytes : List ℕ) → length bytes ≤ MAX_PROFILE_BYTES → reading_of calls bytes ≡ short_of calls bytes
  unfolding reading_of
  short_reading bytes short = rw (le-ltb MAX_PROFILE_BYTES (length bytes) short) refl

  pub no_fault : (bytes : List ℕ) (result : Result Profile ProfileFaultAt) → length bytes ≤ MAX_PROFILE_BYTES
      → Reads (λ profile. profile) result (short_of calls bytes)
      → IfOk result (λ profile. first_fault_at calls bytes ≡ None)
  no_fault bytes (Ok profile) short h = ap result_err (short_reading bytes short ∙ h)
  no_fault bytes (Err fault) short h = tt

  pub first : (bytes : List ℕ) (result : Result Profile ProfileFaultAt) → length bytes ≤ MAX_PROFILE_BYTES
      → Reads (λ profile. profile) result (short_of calls bytes)
      → IfErr result (λ found. found.fault ≢ Memory → first_fault_at calls bytes ≡ Some found)
  first bytes (Ok profile) short h = tt
  first bytes (Err fault) short h = λ not_memory. ap result_err (short_reading bytes short ∙ h not_memory)

  pub not_large : (bytes : List ℕ) (result : Result Profile ProfileFaultAt)
      → Reads (λ profile. profile) result (short_of calls bytes) → IsRefusedFor TooLarge result → ⊥
  not_large bytes (Ok profile) h large = large
  not_large bytes (Err found) h large =
      let not_memory : found.fault ≢ Memory = λ memory. cc in
      subst Avoids (h not_memory) (short_avoids calls bytes) large
