use Rattle.std.proofs.Common.{◌≡◌, arith, subst, sym}
use Rattle.std.proofs.lemmas.Grind.{common_steps}
use Rattle.oci_profile.specs.Entries.{AreEntries}
use Rattle.profile_lint.specs.Entries.{before, behind}
use Rattle.profile_lint.specs.Sameness.{middle_of}
use Rattle.profile_lint.proofs.Near.{around, around_fit}
use Rattle.profile_lint.proofs.entries.around.Goals as goal

pub with_entries-requires : goal.with_entries-requires
with_entries-requires c =
    let profile = c.args.profile.now in
    let entry = c.args.entry.now in
    let is : c.add_near-2.new.list.items ≡ around entry (before profile c.args.place)
    (middle_of entry c.args.middle) (behind profile c.args.place) = grind (arith, common_steps) in
    subst AreEntries (sym is)
    (around_fit profile c.args.place entry c.args.middle c.as_slice-entries.ensures.fit c.requires)
