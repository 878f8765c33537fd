-- The numbers seen of names, after one more name.
use Rattle.std.proofs.Common.{◌≡◌, ℕ, ◌||◌, List, [], ◌∷◌, ◌++◌, Bool, true, false, Some, None, refl, ap}
use Rattle.std.proofs.Common.{sym, ◌∙◌}
use Rattle.std.proofs.Common.{arith}
use Rattle.std.specs.Prelude.{◌==◌}
use Rattle.std.specs.List.{list_any}
use Rattle.std.proofs.lemmas.List.Folds.{list_any-append}
use Rattle.serde_json.specs.Data.{Data}
use Rattle.sys_table.specs.declared.calls.CallTable.{CallTable}
use Rattle.oci_profile.specs.Profile.{number_named}
use Rattle.profile_lint.specs.Passed.{AreSeen, is_named_in, is_number}

or_none : (b : Bool) → (b || (false || false)) ≡ b
or_none true = refl
or_none false = refl

or_one : (b c : Bool) → (b || (c || false)) ≡ (b || c)
or_one true c = refl
or_one false true = refl
or_one false false = refl

same_number : (numbers : List ℕ) (new number : ℕ) (b : Bool) → (new == number) ≡ b
    → list_any (λ n. n == new) numbers ≡ true
    → (list_any (λ n. n == number) numbers || b) ≡ list_any (λ n. n == number) numbers
same_number numbers new number false h there = or_false _
  where
    or_false : (b : Bool) → (b || false) ≡ b
    or_false true = refl
    or_false false = refl
same_number numbers new number true h there = grind (arith, there)

module _ (calls : CallTable) where
  named_more : (before : List Data) (name : Data) (number : ℕ)
      → is_named_in calls (before ++ name ∷ []) number
      ≡ (is_named_in calls before number || (is_number number (number_named calls name) || false))
  named_more before name number = list_any-append (λ n. is_number number (number_named calls n)) before (name ∷ [])

  numbers_more : (numbers : List ℕ) (new number : ℕ) → list_any (λ n. n == number) (numbers ++ new ∷ [])
      ≡ (list_any (λ n. n == number) numbers || ((new == number) || false))
  numbers_more numbers new number = list_any-append (λ n. n == number) numbers (new ∷ [])

  pub seen_more : (before : List Data) (numbers : List ℕ) (name : Data) (new : ℕ) → AreSeen calls before numbers
      → number_named calls name ≡ Some new → AreSeen calls (before ++ name ∷ []) (numbers ++ new ∷ [])
  seen_more before numbers name new seen named number =
      numbers_more numbers new number
      ∙ (ap (λ b. b || ((new == number) || false)) (seen number)
      ∙ sym (named_more before name number
      ∙ ap (λ o. is_named_in calls before number || (is_number number o || false)) named))

  pub seen_none : (before : List Data) (numbers : List ℕ) (name : Data) → AreSeen calls before numbers
      → number_named calls name ≡ None → AreSeen calls (before ++ name ∷ []) numbers
  seen_none before numbers name seen named number =
      seen number ∙ sym (named_more before name number
      ∙ (ap (λ o. is_named_in calls before number || (is_number number o || false)) named ∙ or_none _))

  pub seen_again : (before : List Data) (numbers : List ℕ) (name : Data) (new : ℕ) → AreSeen calls before numbers
      → number_named calls name ≡ Some new → list_any (λ n. n == new) numbers ≡ true
      → AreSeen calls (before ++ name ∷ []) numbers
  seen_again before numbers name new seen named there number =
      sym (named_more before name number
      ∙ (ap (λ o. is_named_in calls before number || (is_number number o || false)) named
      ∙ (or_one (is_named_in calls before number) (new == number)
      ∙ (ap (λ b. b || (new == number)) (sym (seen number))
      ∙ same_number numbers new number (new == number) refl there))))
