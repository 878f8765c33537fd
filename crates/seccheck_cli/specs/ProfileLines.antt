-- RuntimeDefault as it is printed: a text that reads as it, and the end of the line.
use Rattle.std.specs.Prelude.{◌≡◌, ℕ, List, ◌++◌, codes}
use Rattle.oci_profile.specs.Profile.{ReadsProfile}
use Rattle.oci_profile.specs.RuntimeDefault.{runtime_default}

pub record IsDefaultLine (line : List ℕ) : Type 0 where
  pub text : List ℕ
  pub is : line ≡ text ++ codes "\n"
  pub reads : ReadsProfile text runtime_default
