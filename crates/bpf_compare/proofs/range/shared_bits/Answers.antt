use Rattle.bpf_compare.proofs.Bits.{bits_between}
use Rattle.bpf_compare.proofs.range.shared_bits.Goals as goal

pub returns-then-low-count : goal.returns-then-low-count
returns-then-low-count c = λ n small from to.
    bits_between n c.args.low c.args.high _ c.if-count-lt32.true small from to c.if-low-count.true
