-- Both are computed over the table.
use Rattle.std.proofs.Common.{◌≡◌, length, leb, true, refl}
use Rattle.std.proofs.lemmas.Bool.{leb-true}
use Rattle.std.specs.Fmt.{digits}
use Rattle.serde_json.proofs.OnLiterals.{serde_json_on_literals}
use Rattle.sys_table.specs.SysTable.{name_in, names, number_in}
use Rattle.sys_table.specs.declared.calls.CallTable.TheVariants.{Linux5_8}
use Rattle.oci_profile.specs.RuntimeDefault.{allowed_below, allowed_entry, default_entries, entry_named}
use Rattle.oci_profile.specs.RuntimeDefault.{excluded, excludes, is_allowed, personalities, runtime_default}
use Rattle.oci_profile.specs.declared.reader.TheConstants.{MAX_PROFILE_BYTES}
use Rattle.profile_text.specs.Written.{profile_text, profile_tree}
use Rattle.profile_text.proofs.laws.runtime_default_can_be_written.Goals as goal

pub returns-clause-writable : goal.returns-clause-writable
unfolding default_entries allowed_entry allowed_below is_allowed excludes excluded personalities entry_named
    name_in names number_in
returns-clause-writable c = refl

pub returns-clause-short : goal.returns-clause-short
unfolding profile_tree default_entries allowed_entry allowed_below is_allowed excludes excluded personalities
    entry_named name_in names number_in serde_json_on_literals digits
returns-clause-short c = let small : leb (length (profile_text Linux5_8 runtime_default)) MAX_PROFILE_BYTES ≡ true =
    refl in leb-true (length (profile_text Linux5_8 runtime_default)) MAX_PROFILE_BYTES small
