-- std's parser and the test of a numeral agree if there is no sign.
use Rattle.std.proofs.Common.{◌≡◌, eqb, ltb, ℕ, ◌<◌, ◌^◌, ◌&&◌, Bool, true, false, cond, List, [], ◌∷◌}
use Rattle.std.proofs.Common.{length, Some, None, Result, Ok, Err, refl, ap, subst, arith, slice_index}
use Rattle.std.specs.Result.{OkIff, result_ok}
use Rattle.std.specs.List.{list_all}
use Rattle.std.specs.Char.{digit_value}
use Rattle.std.specs.Str.Parse.{AllDigits, IsNumeral, ParsesUnsigned, digits_value, without_leading_plus}
use Rattle.std.proofs.lemmas.Bool.{eqb-false, eqb-true, lt-ltb, ltb-true}
use Rattle.std.proofs.lemmas.Bool.Decides.{nat_tests}
use Rattle.std.proofs.lemmas.Str.Parse.{without_leading_plus_none}
use Rattle.command_line.specs.Numbers.{is_numeral, numeral}

both : (a b : Bool) → (a && b) ≡ true → (a ≡ true) × (b ≡ true)
both true b h = (refl, h)
both false b h = absurd cc

all_digits : (base : ℕ) (digits : List ℕ) → AllDigits base digits
    → list_all (λ digit. ltb (digit_value digit) base) digits ≡ true
all_digits base [] h = refl
all_digits base (d ∷ ds) h = rw (lt-ltb (digit_value d) base h.0) (all_digits base ds h.1)

each_digit : (base : ℕ) (digits : List ℕ) → list_all (λ digit. ltb (digit_value digit) base) digits ≡ true
    → AllDigits base digits
each_digit base [] h = tt
each_digit base (d ∷ ds) h =
    let parts = both (ltb (digit_value d) base) (list_all (λ digit. ltb (digit_value digit) base) ds) h in
    (ltb-true (digit_value d) base parts.0, each_digit base ds parts.1)

passes : (base : ℕ) (digits : List ℕ) → IsNumeral base digits → is_numeral base digits ≡ true
passes base digits h = rw (lt-ltb 0 (length digits) h.0) (all_digits base digits h.1)

passed : (base : ℕ) (digits : List ℕ) → is_numeral base digits ≡ true → IsNumeral base digits
passed base digits h =
    let parts = both (ltb 0 (length digits)) (list_all (λ digit. ltb (digit_value digit) base) digits) h in
    (ltb-true 0 (length digits) parts.0, each_digit base digits parts.1)

by_result : {E : Type 0} (base : ℕ) (digits : List ℕ) (r : Result ℕ E)
    → OkIff r (IsNumeral base digits × (digits_value base digits < 2 ^ 64)) (digits_value base digits)
    → result_ok r ≡ numeral (2 ^ 64) base digits
unfolding numeral
by_result base digits (Ok x) h = rw (
  passes base digits h.0.0,
  lt-ltb (digits_value base digits) (2 ^ 64) h.0.1,
) (ap Some h.1)
by_result base digits (Err e) h =
    let test : Bool = is_numeral base digits && ltb (digits_value base digits) (2 ^ 64) in
    elim test as (λ b. test ≡ b → None ≡ cond b (Some (digits_value base digits)) None) [
      | true ↦ λ is.
          let parts = both (is_numeral base digits) (ltb (digits_value base digits) (2 ^ 64)) is in
          absurd (h (passed base digits parts.0, ltb-true (digits_value base digits) (2 ^ 64) parts.1))
      | false ↦ λ is. refl
    ] refl

-- a text with no sign
pub parsed : {E : Type 0} (base : ℕ) (digits : List ℕ) (r : Result ℕ E)
    → eqb (slice_index digits 0) 43 ≡ false → ParsesUnsigned 64 base digits r
    → result_ok r ≡ numeral (2 ^ 64) base digits
parsed base digits r plain h =
    let same : without_leading_plus digits ≡ digits =
    without_leading_plus_none digits (eqb-false (slice_index digits 0) 43 plain) in
    by_result base digits r (subst (λ (ds : List ℕ).
    OkIff r (IsNumeral base ds × (digits_value base ds < 2 ^ 64)) (digits_value base ds)) same h)

no_digit : (base d : ℕ) (ds : List ℕ) → base < 36 → d ≡ 43
    → list_all (λ digit. ltb (digit_value digit) base) (d ∷ ds) ≡ false
no_digit base d ds small is = rw is (grind (arith, nat_tests))

-- a sign is not a digit
pub signed : (base : ℕ) (digits : List ℕ) → eqb (slice_index digits 0) 43 ≡ true → base < 36
    → None ≡ numeral (2 ^ 64) base digits
unfolding numeral
signed base [] h small = absurd cc
signed base (d ∷ ds) h small = rw (
  lt-ltb 0 (length (d ∷ ds)) (omega arith),
  no_digit base d ds small (eqb-true d 43 h),
) refl
