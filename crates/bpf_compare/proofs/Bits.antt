-- Numbers with some known bits.
use Rattle.std.proofs.Common.{◌≡◌, ◌≢◌, ℕ, zero, suc, ◌-◌, ◌*◌, ◌^◌, ◌<◌, ◌≤◌, min, max, bit_and, bit_or, sym}
use Rattle.std.proofs.Common.{ap, ◌∙◌, arith, ◌/◌, ◌%◌}
use Rattle.std.specs.Int.{bit_at}
use Rattle.std.proofs.Math.Nat.{div-mul-le_self}
use Rattle.std.proofs.lemmas.Nat.{and_le_l, and_comm, and_assoc, and-not, le-div, pow_pos}
use Rattle.std.proofs.lemmas.Nat.Bits.{bit_at_and, bit_at_or, bit_at-lt, same_from_bits, and_pow}
use Rattle.std.proofs.lemmas.Nat.Bits.{and_high_mask, ones_shl}

-- what is known under one mask and under another agrees where they meet
pub bits_meet : (n m k a b : ℕ) → bit_and n m ≡ a → bit_and n k ≡ b → bit_and a k ≡ bit_and b m
bits_meet n m k a b one two =
    ap (λ v. bit_and v k) (sym one) ∙ and_assoc k n m ∙ ap (λ v. bit_and n v) (and_comm m k)
    ∙ sym (and_assoc m n k) ∙ ap (λ v. bit_and v m) two

-- the known bits are bits of their mask
pub bits_stand : (n m a : ℕ) → bit_and n m ≡ a → bit_and a m ≡ a
bits_stand n m a known =
    let own : bit_and m m ≡ m = same_from_bits _ _ (λ i. omega (arith, bit_at_and m m i)) in
    ap (λ v. bit_and v m) (sym known) ∙ and_assoc m n m ∙ ap (λ v. bit_and n v) own ∙ known

either : (i n m k : ℕ) → min (bit_at n i) (max (bit_at m i) (bit_at k i))
    ≡ max (min (bit_at n i) (bit_at m i)) (min (bit_at n i) (bit_at k i))
either i n m k = omega arith

and_or : (n m k : ℕ) → bit_and n (bit_or m k) ≡ bit_or (bit_and n m) (bit_and n k)
and_or n m k = same_from_bits _ _ (λ i.
    bit_at_and n (bit_or m k) i ∙ ap (λ v. min (bit_at n i) v) (bit_at_or m k i) ∙ either i n m k
    ∙ sym (bit_at_or (bit_and n m) (bit_and n k) i
    ∙ ap (λ v. max v (bit_at (bit_and n k) i)) (bit_at_and n m i)
    ∙ ap (λ v. max (min (bit_at n i) (bit_at m i)) v) (bit_at_and n k i)))

-- what is known under two masks is known under both at once
pub bits_joined : (n m k a b : ℕ) → bit_and n m ≡ a → bit_and n k ≡ b → bit_and n (bit_or m k) ≡ bit_or a b
bits_joined n m k a b one two = and_or n m k ∙ ap (λ v. bit_or v (bit_and n k)) one ∙ ap (λ v. bit_or a v) two

-- a number is at least what is known of it, and at most that with all other bits
pub bits_below : (n m a : ℕ) → bit_and n m ≡ a → a ≤ n
bits_below n m a known = omega (arith, and_le_l n m)

pub bits_above : (n m a : ℕ) → n < 2 ^ 32 → m < 2 ^ 32 → bit_and n m ≡ a → n ≤ 2 ^ 32 - 1 - (m - a)
bits_above n m a small narrow known =
    omega (arith, and-not 32 m n narrow small, and_comm m n, and_le_l (2 ^ 32 - 1 - m) n)

-- bits known under a mask are known under a part of it
pub fewer_bits : (n m k a b : ℕ) → bit_and k m ≡ k → bit_and n m ≡ a → bit_and a k ≡ b → bit_and n k ≡ b
fewer_bits n m k a b within known is =
    ap (λ v. bit_and n v) (sym within ∙ and_comm k m) ∙ sym (and_assoc k n m) ∙ ap (λ v. bit_and v k) known
    ∙ is

-- under a mask of one bit a number is 0 or the mask
two_ways : (bit power : ℕ) → bit < 2 → bit * power ≢ 0 → bit * power ≡ power
two_ways zero power below some = absurd (some (omega arith))
two_ways (suc bit) power below some = let one : bit ≡ 0 = omega arith in rw one (omega arith)

pub one_bit : (n k m : ℕ) → m ≡ 2 ^ k → bit_and n m ≢ 0 → bit_and n m ≡ m
one_bit n k m power =
    rw power (λ some. and_pow n k ∙ two_ways (bit_at n k) (2 ^ k) (bit_at-lt n k) (λ none.
    some (and_pow n k ∙ none)))

-- the least and the greatest value, under another mask, of a number with some known bits
pub bits_least : (n m k a : ℕ) → bit_and n m ≡ a → bit_and a k ≤ bit_and n k
bits_least n m k a known = omega (
  arith,
  ap (λ v. bit_and v k) (sym known) ∙ and_assoc k n m ∙ ap (λ v. bit_and n v) (and_comm m k)
      ∙ sym (and_assoc m n k),
  and_le_l (bit_and n k) m,
)

-- a number has none of the bits that it is known to lack
lacks : (n m a : ℕ) → n < 2 ^ 32 → bit_and n m ≡ a → bit_and n (bit_and m (2 ^ 32 - 1 - a)) ≡ 0
lacks n m a small known =
    let below : a < 2 ^ 32 = omega (arith, and_le_l n m) in
    let own : bit_and a a ≡ a = same_from_bits _ _ (λ i. omega (arith, bit_at_and a a i)) in
    sym (and_assoc (2 ^ 32 - 1 - a) n m) ∙ ap (λ v. bit_and v (2 ^ 32 - 1 - a)) known
    ∙ and_comm a (2 ^ 32 - 1 - a) ∙ omega (arith, own, and-not 32 a a below below)

pub bits_greatest : (n m k a : ℕ) → n < 2 ^ 32 → m < 2 ^ 32 → bit_and n m ≡ a
    → bit_and n k ≤ bit_and k (2 ^ 32 - 1 - bit_and m (2 ^ 32 - 1 - a))
bits_greatest n m k a small narrow known =
    let z : ℕ = bit_and m (2 ^ 32 - 1 - a) in
    let rest : ℕ = 2 ^ 32 - 1 - z in
    let none : bit_and z (bit_and n k) ≡ 0 = omega (
      arith,
      sym (and_assoc k z n),
      ap (λ v. bit_and v k) (and_comm z n ∙ lacks n m a small known),
      and_le_l 0 k,
    ) in
    let moved : bit_and rest (bit_and n k) ≡ bit_and (bit_and k rest) n =
    ap (λ v. bit_and rest v) (and_comm n k) ∙ sym (and_assoc n rest k)
    ∙ ap (λ v. bit_and v n) (and_comm rest k) in
    omega (
      arith,
      none,
      moved,
      and-not 32 z (bit_and n k) (omega (arith, and_le_l m (2 ^ 32 - 1 - a)))
          (omega (arith, and_le_l n k)),
      and_le_l (bit_and k rest) n,
    )

quotient_grows : (n m p : ℕ) → 0 < p → n ≤ m → n / p ≤ m / p
quotient_grows n m p some below = le-div (n / p) m p some (omega (arith, div-mul-le_self n p))

-- numbers between two bounds have the high bits that the bounds share
pub bits_between : (n low high k : ℕ) → k < 32 → n < 2 ^ 32 → low ≤ n → n ≤ high
    → low / 2 ^ k ≡ high / 2 ^ k
    → bit_and n ((2 ^ 32 - 1) * 2 ^ k % 2 ^ 32) ≡ bit_and low ((2 ^ 32 - 1) * 2 ^ k % 2 ^ 32)
bits_between n low high k short small from to shared =
    let p : ℕ = 2 ^ k in
    let some : 0 < p = pow_pos k in
    let within : k ≤ 32 = omega arith in
    let same : n / p ≡ low / p = omega (
      arith,
      shared,
      quotient_grows low n p some from,
      quotient_grows n high p some to,
    ) in
    rw (ones_shl 32 k within) (and_high_mask 32 k within n small ∙ ap (λ q. q * p) same
    ∙ sym (and_high_mask 32 k within low (omega arith)))
