-- One more value at the end of those that were seen.
use Rattle.std.proofs.Common.{◌≡◌, ℕ, ◌+◌, ◌||◌, List, [], ◌∷◌, ◌++◌, length, cond, eqb}
use Rattle.std.proofs.Common.{arith, refl}
use Rattle.std.proofs.lemmas.Grind.{common_steps}
use Rattle.std.proofs.lemmas.List.Folds.{list_any-append}
use Rattle.profile_learn.specs.Sightings.{distinct, is_among}

pub among_push : (vs : List ℕ) (v w : ℕ) → is_among (vs ++ v ∷ []) w ≡ (is_among vs w || eqb v w)
among_push vs v w = grind (arith, common_steps, list_any-append (λ x. eqb x w) vs (v ∷ []))

pub distinct_push : (vs : List ℕ) (v : ℕ)
    → length (distinct (vs ++ v ∷ [])) ≡ length (distinct vs) + cond (is_among vs v) 0 1
distinct_push [] v = refl
distinct_push (x ∷ vs) v = grind (arith, common_steps, among_push vs v x, distinct_push vs v)
