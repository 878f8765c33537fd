use Rattle.compile.proofs.Common.{◌≡◌, ℕ, ◌+◌, ◌-◌, ◌^◌, ◌==◌, ◌≤◌, not, refl, sym, ap, ◌∙◌, arith, bit_and}
use Rattle.compile.proofs.Common.{nat_le, data_word}
use Rattle.compile.proofs.Bits.{never_masked, none_above, power_bit, seen_masked}
use Rattle.compile.proofs.Diagrams.{less_power}
use Rattle.compile.proofs.clause.Literal.masked.Goals as goal

pub returns-then-with-mask-clause-holds : goal.returns-then-with-mask-clause-holds
returns-then-with-mask-clause-holds c = λ call _.
    sym (never_masked (data_word call c.args.word) c.args.mask c.args.with c.if-with-mask.true)

pub returns-then-is_power-clause-holds : goal.returns-then-is_power-clause-holds
returns-then-is_power-clause-holds c = λ call below.
    let word : ℕ = data_word call c.args.word in
    let k : ℕ = (c.if-is_power.ensures refl).0 in
    let size : 4294967295 - c.args.mask + 1 ≡ 2 ^ k = (c.if-is_power.ensures refl).1 in
    let within : k ≤ 32 = omega (arith, less_power k 33 (omega (arith, size))) in
    let high : c.args.mask ≡ 2 ^ 32 - 2 ^ k = omega (arith, size, c.ranges.mask.fits) in
    c.opposite.ensures.holds call
    ∙ ap (λ b. not b) (c.from.ensures.holds call below)
    ∙ ap (λ n. not (nat_le n word)) size
    ∙ sym (none_above word k c.args.mask within below high)
    ∙ ap (λ n. bit_and word c.args.mask == n) (sym c.if-with-eq0.true)

pub returns-then-is_power-2-clause-holds : goal.returns-then-is_power-2-clause-holds
returns-then-is_power-2-clause-holds c = λ call _.
    let word : ℕ = data_word call c.args.word in
    c.opposite-then-is_power-2.ensures.holds call
    ∙ ap (λ b. not b) (c.asked.ensures.holds call
    ∙ ap (λ n. n == 0) (seen_masked c.args.mask word c.if-mask-ne-WHOLE.true))
    ∙ power_bit word c.args.mask (c.if-is_power-2.ensures refl).0 (c.if-is_power-2.ensures refl).1
    ∙ ap (λ n. bit_and word c.args.mask == n) (sym c.if-with-mask-2.true)
