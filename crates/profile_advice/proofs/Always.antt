-- Comparisons that are true of every argument.
use Rattle.std.proofs.Common.{◌≡◌, ℕ, ◌-◌, ◌<◌, ◌^◌, ◌∙◌, true, ap, arith, bit_and}
use Rattle.std.specs.Prelude.{◌==◌, ◌↔◌}
use Rattle.std.proofs.lemmas.Bool.Decides.{nat_tests}
use Rattle.std.proofs.lemmas.Nat.{and_comm, and_le_l}
use Rattle.std.specs.Int.Bits.{and_self}
use Rattle.oci_profile.specs.declared.conditions.Op.{Op}
use Rattle.oci_profile.specs.declared.conditions.Op.TheVariants.{NotEqual, Less, LessOrEqual, Equal}
use Rattle.oci_profile.specs.declared.conditions.Op.TheVariants.{GreaterOrEqual, Greater, MaskedEqual}
use Rattle.profile_advice.specs.Conditions.{always}
use Rattle.profile_advice.specs.Laws.{HoldsAlways}

no_bits : (argument : ℕ) → bit_and argument 0 ≡ 0
no_bits argument = grind (arith, and_comm argument 0, and_le_l 0 argument)

masked : (value two argument : ℕ) → value ≡ 0 → two ≡ 0 → (bit_and argument value == two) ≡ true
masked value two argument none zero =
    let cleared : bit_and argument value ≡ 0 = ap (λ v. bit_and argument v) none ∙ no_bits argument in
    grind (arith, nat_tests)

pub holds : (op : Op) (value two : ℕ) → value < 2 ^ 64 → two < 2 ^ 64 → always op value two ≡ true
    → HoldsAlways op value two
holds NotEqual value two fits fit is argument small = absurd cc
holds Less value two fits fit is argument small = absurd cc
holds LessOrEqual value two fits fit is argument small = grind (arith, nat_tests)
holds Equal value two fits fit is argument small = absurd cc
holds GreaterOrEqual value two fits fit is argument small = grind (arith, nat_tests)
holds Greater value two fits fit is argument small = absurd cc
holds MaskedEqual value two fits fit is argument small =
    masked value two argument (grind (arith, nat_tests)) (grind (arith, nat_tests))

zero_fits : 0 < 2 ^ 64
zero_fits = grind (arith, nat_tests)

one_fits : 1 < 2 ^ 64
one_fits = grind (arith, nat_tests)

last_fits : 2 ^ 64 - 1 < 2 ^ 64
last_fits = grind (arith, nat_tests)

pub is_told : (op : Op) (value two : ℕ) → value < 2 ^ 64 → two < 2 ^ 64 → HoldsAlways op value two
    → always op value two ≡ true
is_told NotEqual value two fits fit all = grind (arith, nat_tests, all value fits)
is_told Less value two fits fit all = grind (arith, nat_tests, all value fits)
is_told LessOrEqual value two fits fit all = grind (arith, nat_tests, all (2 ^ 64 - 1) last_fits)
is_told Equal value two fits fit all = grind (arith, nat_tests, all 0 zero_fits, all 1 one_fits)
is_told GreaterOrEqual value two fits fit all = grind (arith, nat_tests, all 0 zero_fits)
is_told Greater value two fits fit all = grind (arith, nat_tests, all 0 zero_fits)
is_told MaskedEqual value two fits fit all =
    grind (arith, nat_tests, all 0 zero_fits, all value fits, and_self value, and_le_l 0 value)

pub exact : (op : Op) (value two : ℕ) → value < 2 ^ 64 → two < 2 ^ 64
    → (always op value two ≡ true) ↔ HoldsAlways op value two
exact op value two fits fit = (holds op value two fits fit, is_told op value two fits fit)
