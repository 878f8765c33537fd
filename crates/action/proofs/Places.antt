-- The place of what an item of a list represents.
use Rattle.std.proofs.Common.{◌≡◌, ℕ, ◌+◌, List, [], ◌∷◌, Bool, not, cond, map, refl, ap}
use Rattle.std.specs.Prelude.{position}
use Rattle.std.specs.List.{prefix_len}
use Rattle.std.proofs.lemmas.List.{length-map}

one_more : (b : Bool) (m n : ℕ) → m ≡ n → cond b (1 + m) 0 ≡ cond b (1 + n) 0
one_more b m n h = ap (λ k. cond b (1 + k) 0) h

front_of_map : {A B : Type 0} (see : A → B) (is : B → Bool) (xs : List A)
    → prefix_len is (map see xs) ≡ prefix_len (λ x. is (see x)) xs
front_of_map see is [] = refl
front_of_map see is (x ∷ xs) = one_more (is (see x)) _ _ (front_of_map see is xs)

pub position_of_map : {A B : Type 0} (see : A → B) (is : B → Bool) (xs : List A)
    → position is (map see xs) ≡ position (λ x. is (see x)) xs
position_of_map see is xs = rw (front_of_map see (λ x. not (is x)) xs, length-map) refl
