-- The test by which a set of attempts looks one up.
use Rattle.std.proofs.Common.{◌≡◌, ℕ, ◌==◌, ◌&&◌, ◌||◌, List, [], ◌∷◌, refl, ap, ◌∙◌, rules, Ordering, Less}
use Rattle.std.proofs.Common.{Equal, Greater}
use Rattle.std.specs.Ordering.{is_eq, nat_cmp, ordering_then}
use Rattle.std.specs.Cmp.Lexicographic.{slice_cmp}
use Rattle.std.specs.List.{list_any}
use Rattle.std.specs.BTreeMap.{is_at}
use Rattle.std.specs.Str.{bytes_eq}
use Rattle.std.proofs.lemmas.Map.Text.{is_eq-slice_cmp}
use Rattle.cri_msgs.specs.Order.{container_cmp}
use Rattle.cri_msgs.specs.declared.keys.ContainerMetadata.{ContainerMetadata}
use Rattle.registry.specs.Runtime.{is_same}

pub same_number : (x y : ℕ) → is_eq (nat_cmp x y) ≡ (x == y)
same_number x y = search (rules)

both : (f g : Ordering) → is_eq (ordering_then f g) ≡ (is_eq f && is_eq g)
both Less g = refl
both Equal g = refl
both Greater g = refl

pub same_test : (a b : ContainerMetadata) → is_eq (container_cmp a b) ≡ is_same a b
same_test a b = both (slice_cmp nat_cmp a.name b.name) (nat_cmp a.attempt b.attempt)
    ∙ ap (λ f. f && is_eq (nat_cmp a.attempt b.attempt)) (is_eq-slice_cmp a.name b.name)
    ∙ ap (λ g. bytes_eq a.name b.name && g) (same_number a.attempt b.attempt)

pub same_any : (a : ContainerMetadata) (used : List ContainerMetadata)
    → list_any (is_at (container_cmp a)) used ≡ list_any (is_same a) used
same_any a [] = refl
same_any a (b ∷ used) = ap (λ f. f || list_any (is_at (container_cmp a)) used) (same_test a b)
    ∙ ap (λ g. is_same a b || g) (same_any a used)
