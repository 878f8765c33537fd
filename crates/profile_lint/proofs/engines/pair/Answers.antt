use Rattle.std.proofs.Common.{◌≡◌, ◌++◌, [], ◌∷◌, arith, subst, sym}
use Rattle.std.proofs.lemmas.Grind.{common_steps}
use Rattle.std.proofs.lemmas.List.Elements.{All-append, All-cons, All-filter, All-nil}
use Rattle.oci_profile.specs.Entries.{AreEntries, IsFit}
use Rattle.profile_lint.specs.Sameness.{near, shares}
use Rattle.profile_lint.proofs.engines.pair.Goals as goal

pub with_entries-requires : goal.with_entries-requires
with_entries-requires c =
    let one = c.args.one.now in
    let two = c.args.two.now in
    let entry = c.args.entry.now in
    let bare = c.args.bare.now.entries in
    let is : c.push-2.new.self.items ≡ near entry bare ++ (one ∷ two ∷ []) = grind (arith, common_steps) in
    subst AreEntries (sym is) (All-append IsFit (near entry bare) (one ∷ two ∷ [])
    (All-filter (shares entry) IsFit bare c.as_slice.ensures.fit)
    (All-cons IsFit one (two ∷ []) c.requires.one_fit
    (All-cons IsFit two [] c.requires.two_fit (All-nil IsFit))))
