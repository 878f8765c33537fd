use Rattle.std.proofs.Common.{◌∙◌}
use Rattle.std.proofs.lemmas.Bool.{eqb-true}
use Rattle.std.proofs.lemmas.Nat.{one_shl}
use Rattle.bpf_compare.proofs.Bits.{one_bit}
use Rattle.bpf_compare.proofs.range.is_one_bit.Goals as goal

pub returns-then-place-lt32 : goal.returns-then-place-lt32
returns-then-place-lt32 c = λ same n. one_bit n _ c.args.mask (eqb-true _ _ same
    ∙ one_shl _ 32 c.if-place-lt32.true)
