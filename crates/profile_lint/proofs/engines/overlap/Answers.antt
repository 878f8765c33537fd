use Rattle.std.proofs.Common.{◌≡◌, ◌++◌, [], ◌∷◌, ap, subst, ◌∙◌}
use Rattle.oci_profile.specs.declared.profile.Profile.{Profile}
use Rattle.profile_lint.specs.Engines.{kept_of}
use Rattle.profile_lint.specs.Entries.{MeanSame, with_entries}
use Rattle.profile_lint.specs.Sameness.{Says, near}
use Rattle.profile_lint.specs.declared.engines.Kind.TheVariants.{Bare}
use Rattle.profile_lint.proofs.Alike.{pair_apart}
use Rattle.profile_lint.proofs.engines.overlap.Goals as goal

pub returns-in-Same : goal.returns-in-Same
returns-in-Same c =
    let profile = c.args.profile.now in
    let one = c.args.one.now in
    let two = c.args.two.now in
    let first = c.in_ok-first.first in
    let turned = c.in_ok-turned.turned in
    let alike : MeanSame first turned = subst (λ s. Says s first turned) c.in-Same.is c.in_ok-compared.ensures in
    let first_is : first ≡ with_entries profile (near one (kept_of Bare profile) ++ (one ∷ two ∷ [])) =
    c.in_ok-first.ensures ∙ ap (λ (p : Profile). with_entries p (near one p.entries ++ (one ∷ two ∷ [])))
    c.requires.bare in
    let turned_is : turned ≡ with_entries profile (near one (kept_of Bare profile) ++ (two ∷ one ∷ [])) =
    c.in_ok-turned.ensures ∙ ap (λ (p : Profile). with_entries p (near one p.entries ++ (two ∷ one ∷ [])))
    c.requires.bare in
    pair_apart profile c.args.place c.args.second one two c.requires.one_at c.requires.two_at
    (subst (λ p. MeanSame p (with_entries profile (near one (kept_of Bare profile) ++ (two ∷ one ∷ []))))
    first_is (subst (λ p. MeanSame first p) turned_is alike))
