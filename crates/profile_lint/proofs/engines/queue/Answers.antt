use Rattle.std.proofs.Common.{◌≡◌, ◌++◌, arith, subst, sym}
use Rattle.std.proofs.lemmas.Grind.{common_steps}
use Rattle.oci_profile.specs.Entries.{AreEntries}
use Rattle.profile_lint.specs.Entries.{before}
use Rattle.profile_lint.specs.Sameness.{middle_of, near}
use Rattle.profile_lint.proofs.Near.{queue_fit}
use Rattle.profile_lint.proofs.engines.queue.Goals as goal

pub with_entries-requires : goal.with_entries-requires
with_entries-requires c =
    let profile = c.args.profile.now in
    let entry = c.args.entry.now in
    let engines = c.args.engines.now in
    let is : c.add_near-2.new.list.items ≡ near entry (before profile c.args.place)
    ++ (middle_of entry c.args.middle ++ near entry engines.entries) = grind (arith, common_steps) in
    subst AreEntries (sym is) (queue_fit profile engines.entries c.args.place entry c.args.middle
    c.as_slice-entries.ensures.fit c.as_slice.ensures.fit c.requires)
