-- Properties of one or of all items of a list, for the items and for what they represent.
use Rattle.std.proofs.Common.{◌≡◌, ℕ, ◌+◌, ◌&&◌, ◌||◌, List, [], ◌∷◌, Bool, cond, map, refl, ap}
use Rattle.std.specs.Prelude.{count_by}
use Rattle.std.specs.List.{fold, list_all, list_any}
use Rattle.serde_json.specs.Data.{Data}
use Rattle.serde_json.specs.View.{view}
use Rattle.serde_json.specs.declared.value.Value.{Value}

pub any_of_views : (test : Data → Bool) (items : List Value) → list_any (λ item. test (view item)) items
    ≡ list_any test (map view items)
any_of_views test [] = refl
any_of_views test (item ∷ items) = ap (λ rest. test (view item) || rest) (any_of_views test items)

pub all_of_views : (test : Data → Bool) (items : List Value) → list_all (λ item. test (view item)) items
    ≡ list_all test (map view items)
all_of_views test [] = refl
all_of_views test (item ∷ items) = ap (λ rest. test (view item) && rest) (all_of_views test items)

counted_from : (test : Data → Bool) (a : ℕ) (items : List Value)
    → fold (λ n item. n + cond (test (view item)) 1 0) a items
    ≡ fold (λ n item. n + cond (test item) 1 0) a (map view items)
counted_from test a [] = refl
counted_from test a (item ∷ items) = counted_from test (a + cond (test (view item)) 1 0) items

pub count_of_views : (test : Data → Bool) (items : List Value) → count_by (λ item. test (view item)) items
    ≡ count_by test (map view items)
count_of_views test items = counted_from test 0 items
