use Rattle.std.proofs.Common.{sym, subst}
use Rattle.sys_table.specs.declared.calls.CallTable.TheVariants.{Linux5_8}
use Rattle.oci_profile.specs.Entries.{AreEntries}
use Rattle.oci_profile.proofs.Default.{default_fit}
use Rattle.oci_profile.proofs.default_profile.runtime_default.Goals as goal

pub new-requires : goal.new-requires
new-requires c = subst AreEntries (sym c.in_ok-entries.ensures)
    (default_fit (c.names_and_numbers_agree.ensures.in_table Linux5_8))
