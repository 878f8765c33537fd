use Rattle.bpf_compare.proofs.Bits.{bits_meet, bits_stand, bits_joined}
use Rattle.bpf_compare.proofs.range.Range.with_bits.Goals as goal

pub returns-then-bits-mask : goal.returns-then-bits-mask
returns-then-bits-mask c = λ n in_range has. absurd (c.if-bits-mask.true (bits_stand n _ _ has))

pub returns-then-self-mask : goal.returns-then-self-mask
returns-then-self-mask c = λ n in_range has.
    absurd (c.if-self-mask.true (bits_meet n _ _ _ _ in_range.bits has))

pub returns : goal.returns
returns c = λ n in_range has.
    c.settled.ensures n (record {
      low = in_range.low;
      high = in_range.high;
      bits = bits_joined n _ _ _ _ in_range.bits has;
    })
