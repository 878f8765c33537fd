use Rattle.std.proofs.Common.{◌≡◌, arith, subst, sym}
use Rattle.std.specs.Prelude.{filter}
use Rattle.std.proofs.lemmas.Grind.{common_steps}
use Rattle.std.proofs.lemmas.List.Elements.{All-filter}
use Rattle.oci_profile.specs.Entries.{AreEntries, IsFit}
use Rattle.profile_lint.specs.Engines.{is_kept_of}
use Rattle.profile_lint.specs.declared.engines.Kind.TheVariants.{Bare}
use Rattle.profile_lint.proofs.engines.bare_of.Goals as goal

pub with_entries-requires : goal.with_entries-requires
with_entries-requires c =
    let profile = c.args.profile.now in
    let is : c.add_kept.new.list.items ≡ filter (is_kept_of Bare profile) profile.entries =
    grind (arith, common_steps) in
    subst AreEntries (sym is) (All-filter (is_kept_of Bare profile) IsFit profile.entries c.as_slice.ensures.fit)
