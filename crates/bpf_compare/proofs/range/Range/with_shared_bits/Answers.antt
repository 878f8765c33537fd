use Rattle.std.proofs.Common.{arith}
use Rattle.bpf_compare.proofs.Bits.{bits_meet, bits_joined}
use Rattle.bpf_compare.proofs.range.Range.with_shared_bits.Goals as goal

pub returns-then-self-shared : goal.returns-then-self-shared
returns-then-self-shared c = λ n in_range. record {
  low = in_range.low;
  high = in_range.high;
  bits = bits_joined n _ _ _ _ in_range.bits
      (c.shared_bits-shared.ensures n (omega (arith, in_range.high)) in_range.low in_range.high);
}

pub returns-else-self-shared : goal.returns-else-self-shared
returns-else-self-shared c = λ n in_range.
    absurd (c.if-self-shared.false (bits_meet n _ _ _ _ in_range.bits
    (c.shared_bits-shared.ensures n (omega (arith, in_range.high)) in_range.low in_range.high)))
