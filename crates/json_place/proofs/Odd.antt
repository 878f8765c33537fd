-- The index of the first item that passes a test, for items and for what they represent.
use Rattle.std.proofs.Common.{◌≡◌, ℕ, ◌+◌, List, [], ◌∷◌, Bool, not, cond, map, refl, ap}
use Rattle.std.specs.Prelude.{position}
use Rattle.std.specs.List.{prefix_len}
use Rattle.std.proofs.lemmas.List.{length-map}
use Rattle.serde_json.specs.Data.{Data}
use Rattle.serde_json.specs.View.{view}
use Rattle.serde_json.specs.declared.value.Value.{Value}

one_more : (b : Bool) (m n : ℕ) → m ≡ n → cond b (1 + m) 0 ≡ cond b (1 + n) 0
one_more b m n h = ap (λ k. cond b (1 + k) 0) h

front_of_views : (is : Data → Bool) (items : List Value)
    → prefix_len is (map view items) ≡ prefix_len (λ item. is (view item)) items
front_of_views is [] = refl
front_of_views is (item ∷ items) = one_more (is (view item)) _ _ (front_of_views is items)

pub position_of_views : (is : Data → Bool) (items : List Value)
    → position is (map view items) ≡ position (λ item. is (view item)) items
position_of_views is items = rw (front_of_views (λ item. not (is item)) items, length-map) refl
