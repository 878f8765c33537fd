-- The names of a listing, entry by entry.
use Rattle.std.proofs.Common.{◌≡◌, List, [], ◌∷◌, ◌++◌, Option, Some, None, Ok, Err, ℕ, refl, sym, ap, ◌∙◌}
use Rattle.std.proofs.Common.{arith}
use Rattle.std.proofs.Common.{subst}
use Rattle.pod_folder.specs.declared.names.Entry.{Entry}
use Rattle.pod_folder.specs.Names.{AreNamesWith, Listed, ReturnsNext, listed}
use Rattle.pod_folder.specs.Names.{manifests_in}
use Rattle.pod_folder.specs.Names.{with_name}

with_name_first : (name : Option (List ℕ)) (names : List (List ℕ)) → with_name name names
    ≡ with_name name [] ++ names
with_name_first None names = refl
with_name_first (Some name) names = grind (arith)

append_assoc : (a b c : List (List ℕ)) → (a ++ b) ++ c ≡ a ++ (b ++ c)
append_assoc [] b c = refl
append_assoc (x ∷ a) b c = λ i. x ∷ append_assoc a b c i

-- one more entry was listed
pub names_step : (all left after : Option (List Listed)) (entry : Entry) (names more : List (List ℕ))
    → AreNamesWith all left names → ReturnsNext left (Ok (Some entry)) after
    → more ≡ names ++ with_name (listed entry) [] → AreNamesWith all after more
names_step None left after entry names more are next is = tt
names_step (Some a) (Some (Ok name ∷ rest)) after entry names more are next is =
    subst (λ x. AreNamesWith (Some a) x more) (sym next.1) (
      are.0,
      ap (λ n. n ++ manifests_in rest) is
          ∙ append_assoc names (with_name (listed entry) []) (manifests_in rest)
          ∙ ap (λ n. names ++ n) (ap (λ n. with_name n [] ++ manifests_in rest) next.0
          ∙ sym (with_name_first name (manifests_in rest)))
          ∙ are.1,
    )
names_step (Some a) None after entry names more are next is = elim are [ ]
names_step (Some a) (Some []) after entry names more are next is = elim next [ ]
names_step (Some a) (Some (Err _ ∷ rest)) after entry names more are next is = elim next [ ]
