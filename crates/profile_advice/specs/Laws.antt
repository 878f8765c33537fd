-- What it means that a condition always holds.
use Rattle.std.specs.Prelude.{◌≡◌, ℕ, ◌<◌, ◌^◌, true}
use Rattle.oci_profile.specs.Meaning.{compares}
use Rattle.oci_profile.specs.declared.conditions.Op.{Op}

-- the comparison is true of every argument
abbrev pub HoldsAlways : Op → ℕ → ℕ → Type 0
HoldsAlways op value two = (argument : ℕ) → argument < 2 ^ 64 → compares op value two argument ≡ true
