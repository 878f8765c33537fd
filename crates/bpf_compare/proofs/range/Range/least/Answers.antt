use Rattle.bpf_compare.proofs.Bits.{bits_least}
use Rattle.bpf_compare.proofs.range.Range.least.Goals as goal

pub returns : goal.returns
returns c = λ n in_range. bits_least n _ c.args.mask _ in_range.bits
