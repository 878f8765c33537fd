-- The entries of a profile: OCI runtime-spec 1.1, config-linux, seccomp, "syscalls".
use Rattle.std.specs.Prelude.{List, All}
use Rattle.oci_profile.specs.declared.profile.Entry.{Entry}
use Rattle.oci_profile.specs.Conditions.{AreConds, AreNumbers}

pub record IsFit (entry : Entry) : Type 0 where
  pub numbers_fit : AreNumbers entry.numbers
  pub conds_fit : AreConds entry.conds

abbrev pub AreEntries : List Entry → Type 0
AreEntries entries = All IsFit entries
