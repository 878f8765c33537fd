-- Words under masks.
use Rattle.compile.proofs.Common.{◌≡◌, ◌≢◌, ℕ, zero, suc, ◌⊎◌, inl, inr, ◌<◌, ◌≤◌, ◌==◌, ◌^◌, ◌*◌, ◌+◌, ◌-◌}
use Rattle.compile.proofs.Common.{◌/◌, ◌%◌, Bool, not, true, false, cond, refl, sym, ap, subst, ◌∙◌, arith}
use Rattle.compile.proofs.Common.{bit_and, nat_le, div-add-mod', ne_eqb, nat_tests, seen, WHOLE}
use Rattle.std.proofs.lemmas.Nat.{and_assoc, and_comm, and_le_l, mod_below, pow_pos}
use Rattle.std.specs.Int.{bit_at}
use Rattle.std.specs.Int.Bits.{and_self}
use Rattle.std.proofs.lemmas.Nat.Bits.{and_high_mask, and_pow, bit_at-lt}

pub seen_whole : (mask word : ℕ) → mask ≡ WHOLE → seen mask word ≡ word
seen_whole mask word whole = ap (λ m. seen m word) whole

pub seen_masked : (mask word : ℕ) → mask ≢ WHOLE → seen mask word ≡ bit_and word mask
seen_masked mask word other = ap (λ b. cond b word (bit_and word mask)) (ne_eqb mask WHOLE other)

-- a mask within another one leaves a part of what that one does
seen_part : (word mask part : ℕ) → bit_and part mask ≡ part
    → bit_and word part ≡ bit_and (bit_and word mask) part
seen_part word mask part within =
    ap (λ n. bit_and word n) (sym within ∙ and_comm part mask) ∙ sym (and_assoc part word mask)

pub seen_within : (mask part word : ℕ) → mask ≢ WHOLE → part ≢ WHOLE → bit_and part mask ≡ part
    → seen part (seen mask word) ≡ seen part word
seen_within mask part word masked partial within =
    ap (λ n. seen part n) (seen_masked mask word masked) ∙ seen_masked part (bit_and word mask) partial
    ∙ sym (seen_part word mask part within) ∙ sym (seen_masked part word partial)

masked_turned : (word one other : ℕ)
    → bit_and (bit_and word one) other ≡ bit_and (bit_and word other) one
masked_turned word one other =
    and_assoc other word one ∙ ap (λ n. bit_and word n) (and_comm one other) ∙ sym (and_assoc one word other)

either_turned : (first second : Bool) (one other word : ℕ)
    → cond first (cond second word (bit_and word other)) (bit_and (cond second word (bit_and word other)) one)
    ≡ cond second (cond first word (bit_and word one)) (bit_and (cond first word (bit_and word one)) other)
either_turned true true one other word = refl
either_turned true false one other word = refl
either_turned false true one other word = refl
either_turned false false one other word = masked_turned word other one

-- two masks may be applied in either order
pub seen_turned : (one other word : ℕ) → seen one (seen other word) ≡ seen other (seen one word)
seen_turned one other word = either_turned (one == WHOLE) (other == WHOLE) one other word

less_left : (whole : Bool) (word mask : ℕ) → cond whole word (bit_and word mask) ≤ word
less_left true word mask = omega arith
less_left false word mask = and_le_l word mask

pub seen_less : (mask word : ℕ) → seen mask word ≤ word
seen_less mask word = less_left (mask == WHOLE) word mask

either_bit : (bit power : ℕ) → bit < 2 → (bit * power ≡ 0) ⊎ (bit * power ≡ power)
either_bit zero power less = inl (omega arith)
either_bit (suc zero) power less = inr (omega arith)
either_bit (suc (suc bit)) power less = absurd (omega (arith, less))

none_or_all : (x power : ℕ) → (x ≡ 0) ⊎ (x ≡ power) → 0 < power → (x == power) ≡ not (x == 0)
none_or_all x power (inl none) some = grind (arith, nat_tests)
none_or_all x power (inr all) some = grind (arith, nat_tests)

-- a word has all or none of a mask of one bit
one_bit : (word k : ℕ) → 0 < 2 ^ k
    → (bit_and word (2 ^ k) == 2 ^ k) ≡ not (bit_and word (2 ^ k) == 0)
one_bit word k some =
    let P : ℕ → Type 0 = λ x. (x == 2 ^ k) ≡ not (x == 0) in
    subst P (sym (and_pow word k)) (none_or_all (bit_at word k * 2 ^ k) (2 ^ k)
    (either_bit (bit_at word k) (2 ^ k) (bit_at-lt word k)) some)

pub power_bit : (word mask k : ℕ) → mask ≡ 2 ^ k
    → not (bit_and word mask == 0) ≡ (bit_and word mask == mask)
power_bit word mask k is =
    let P : ℕ → Type 0 = λ m. not (bit_and word m == 0) ≡ (bit_and word m == m) in
    subst P (sym is) (sym (one_bit word k (pow_pos k)))

-- a number with bits outside of a mask equals no word under the mask
pub never_masked : (word mask with : ℕ) → bit_and with mask ≢ with → (bit_and word mask == with) ≡ false
never_masked word mask with outside =
    ne_eqb (bit_and word mask) with (λ here. outside (ap (λ n. bit_and n mask) (sym here)
    ∙ and_assoc mask word mask ∙ ap (λ n. bit_and word n) (and_self mask) ∙ here))

none_left : (many rest power word : ℕ) → many * power + rest ≡ word → rest < power
    → (many * power == 0) ≡ not (nat_le power word)
none_left zero rest power word is less =
    let none : zero * power ≡ 0 = omega arith in
    let here : rest ≡ word = omega (arith, is, none) in
    rw none (grind (arith, nat_tests))
none_left (suc many) rest power word is less =
    let more : suc many * power ≡ power + many * power = omega arith in
    let some : (suc many * power == 0) ≡ false = ne_eqb (suc many * power) 0
    (λ none. omega (arith, none, more, less)) in
    let above : nat_le power word ≡ true = (let large : power ≤ word = omega (arith, is, more) in
    grind (arith, nat_tests)) in
    some ∙ ap not (sym above)

-- a number without the bits from one on is below that one
pub none_above : (word k mask : ℕ) → k ≤ 32 → word < 2 ^ 32 → mask ≡ 2 ^ 32 - 2 ^ k
    → (bit_and word mask == 0) ≡ not (nat_le (2 ^ k) word)
none_above word k mask within below is =
    let P : ℕ → Type 0 = λ m. (bit_and word m == 0) ≡ not (nat_le (2 ^ k) word) in
    let Q : ℕ → Type 0 = λ n. (n == 0) ≡ not (nat_le (2 ^ k) word) in
    subst P (sym is) (subst Q (sym (and_high_mask 32 k within word below))
    (none_left (word / 2 ^ k) (word % 2 ^ k) (2 ^ k) word (div-add-mod' word (2 ^ k))
    (mod_below word (2 ^ k) (pow_pos k))))
