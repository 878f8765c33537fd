use Rattle.std.proofs.Common.{arith}
use Rattle.std.proofs.lemmas.Nat.{and_le_l}
use Rattle.bpf_compare.proofs.range.Range.above.Goals as goal

pub returns-else-is_one_bit : goal.returns-else-is_one_bit
returns-else-is_one_bit c = λ n in_range above.
    c.from.ensures n in_range (omega (arith, and_le_l n c.args.mask))
