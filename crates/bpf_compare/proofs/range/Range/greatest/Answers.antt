use Rattle.std.proofs.Common.{arith}
use Rattle.bpf_compare.proofs.Bits.{bits_greatest}
use Rattle.bpf_compare.proofs.range.Range.greatest.Goals as goal

pub returns : goal.returns
returns c = λ n in_range.
    bits_greatest n _ c.args.mask _ (omega (arith, in_range.high)) (omega arith) in_range.bits
