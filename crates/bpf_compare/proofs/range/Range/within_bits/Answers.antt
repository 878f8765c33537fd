use Rattle.std.proofs.Common.{arith}
use Rattle.bpf_compare.proofs.Bits.{bits_below, bits_above}
use Rattle.bpf_compare.proofs.range.Range.within_bits.Goals as goal

pub returns-then-low-high : goal.returns-then-low-high
returns-then-low-high c = λ n in_range.
    absurd (omega (
      arith,
      c.if-low-high.true,
      in_range.low,
      in_range.high,
      bits_below n _ _ in_range.bits,
      bits_above n c.args.self.mask c.args.self.bits (omega (arith, in_range.high)) (omega arith)
          in_range.bits,
    ))

pub returns-else-low-high : goal.returns-else-low-high
returns-else-low-high c = λ n in_range. record {
  low = omega (arith, in_range.low, bits_below n _ _ in_range.bits);
  high = omega (
    arith,
    in_range.high,
    bits_above n c.args.self.mask c.args.self.bits (omega (arith, in_range.high)) (omega arith)
        in_range.bits,
  );
  bits = in_range.bits;
}
