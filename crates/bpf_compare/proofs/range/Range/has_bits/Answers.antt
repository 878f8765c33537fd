use Rattle.std.proofs.lemmas.Bool.{eqb-true}
use Rattle.bpf_compare.proofs.Bits.{fewer_bits}
use Rattle.bpf_compare.proofs.range.Range.has_bits.Goals as goal

pub returns-then-mask-self : goal.returns-then-mask-self
returns-then-mask-self c = λ same n in_range.
    fewer_bits n c.args.self.mask c.args.mask c.args.self.bits c.args.bits c.if-mask-self.true in_range.bits
    (eqb-true _ _ same)
