-- A test of a tree's parts is a test of what they represent.
use Rattle.std.proofs.Common.{◌≡◌, ℕ, ◌+◌, ◌<◌, ◌||◌, List, [], ◌∷◌, ◌++◌, Bool, map, length}
use Rattle.std.specs.Prelude.{filter_map, option_map, option_to_list}
use Rattle.std.proofs.Common.{Option, Some, None, take, drop, refl, ap, sym, ◌∙◌, get_or}
use Rattle.std.specs.List.{enumerate_from, list_any}
use Rattle.std.proofs.lemmas.List.{take-map, map_more, append_assoc, drop_more, map-append}
use Rattle.profile_lint.specs.declared.passed.Passed.{Passed}
use Rattle.profile_lint.specs.Passed.{PassedData, told}
use Rattle.serde_json.specs.Data.{Data}
use Rattle.serde_json.specs.View.{view}
use Rattle.serde_json.specs.declared.value.Value.{Value}

pub any_of_views : (test : Data → Bool) (items : List Value) → list_any (λ item. test (view item)) items
    ≡ list_any test (map view items)
any_of_views test [] = refl
any_of_views test (item ∷ items) = ap (λ rest. test (view item) || rest) (any_of_views test items)

pub view_more : (items : List Value) (i : ℕ) (item : Value) → i < length items → item ≡ get_or items i item
    → take (i + 1) (map view items) ≡ take i (map view items) ++ view item ∷ []
view_more items i item within is =
    take-map view (i + 1) items ∙ (map_more view items i item within
    ∙ (ap (λ v. map view (take i items) ++ view v ∷ []) (sym is)
    ∙ ap (λ xs. xs ++ view item ∷ []) (sym (take-map view i items))))

one_first : {A : Type 0} (f : ℕ × Data → Option A) (x : ℕ × Data) (rest : List (ℕ × Data)) (o : Option A)
    → f x ≡ o → filter_map f (x ∷ rest) ≡ option_to_list o ++ filter_map f rest
one_first f x rest None is = rw is refl
one_first f x rest (Some y) is = rw is refl

pub told_first : {A : Type 0} (f : ℕ × Data → Option A) (items : List Value) (i : ℕ) (item : Value)
    → i < length items → item ≡ get_or items i item
    → filter_map f (enumerate_from i (map view (drop i items)))
    ≡ option_to_list (f (i, view item))
    ++ filter_map f (enumerate_from (i + 1) (map view (drop (i + 1) items)))
told_first f items i item within is =
    let here : drop i items ≡ item ∷ drop (i + 1) items =
    drop_more items i item within ∙ ap (λ v. v ∷ drop (i + 1) items) (sym is) in
    ap (λ vs. filter_map f (enumerate_from i (map view vs))) here
    ∙ one_first f (i, view item) (enumerate_from (i + 1) (map view (drop (i + 1) items))) _ refl

pub told_one_more : (found : List Passed) (one : Option Passed)
    → map told (found ++ option_to_list one) ≡ map told found ++ option_to_list (option_map told one)
told_one_more found None = map-append told found []
told_one_more found (Some one) = map-append told found (one ∷ [])

pub told_on : (f : ℕ × Data → Option PassedData) (items : List Value) (i : ℕ) (item : Value)
    (found new : List Passed) (one : Option Passed) (all : List PassedData)
    → i < length items → item ≡ get_or items i item → new ≡ found ++ option_to_list one
    → option_map told one ≡ f (i, view item)
    → map told found ++ filter_map f (enumerate_from i (map view (drop i items))) ≡ all
    → map told new ++ filter_map f (enumerate_from (i + 1) (map view (drop (i + 1) items))) ≡ all
told_on f items i item found new one all within is news tells so =
    let rest = filter_map f (enumerate_from (i + 1) (map view (drop (i + 1) items))) in
    ap (λ xs. map told xs ++ rest) news
    ∙ (ap (λ xs. xs ++ rest) (told_one_more found one)
    ∙ (append_assoc (map told found) (option_to_list (option_map told one)) rest
    ∙ (ap (λ o. map told found ++ (option_to_list o ++ rest)) tells
    ∙ (ap (λ xs. map told found ++ xs) (sym (told_first f items i item within is)) ∙ so))))
