use Rattle.compile.proofs.Common.{bit_and}
use Rattle.std.proofs.lemmas.Bool.{eqb-true}
use Rattle.compile.proofs.Bits.{seen_within}
use Rattle.compile.proofs.atom.covers.Goals as goal

pub returns : goal.returns
returns c = λ same word.
    seen_within c.args.mask c.args.part word c.if-mask-eq-WHOLE.false c.if-part-eq-WHOLE.false
    (eqb-true (bit_and c.args.part c.args.mask) c.args.part same)
