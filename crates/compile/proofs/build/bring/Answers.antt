use Rattle.compile.proofs.Common.{ℕ, ◌+◌, ◌-◌, length, subst, arith, Gives, data_word}
use Rattle.compile.proofs.Building.{gives_more}
use Rattle.compile.proofs.Testing.{masked_of}
use Rattle.compile.proofs.build.bring.Goals as goal

pub returns-clause-gives : goal.returns-clause-gives
returns-clause-gives c = λ call value most gives a _.
    let P : ℕ → Type 0 = λ x. Gives c.args.code.now call (length c.args.code.now - 1) x value most in
    gives_more c.load-2.new.self call (length c.load-2.new.self - 1) a value (most + 1 + 1) (most + 2)
    (c.in_ok-load-2.ensures.gives call a value (most + 1) (c.in_ok-mask.ensures.gives call
    (data_word call c.args.base.offset) value most
    (subst P (masked_of c.args.base call c.if-base-eq-WHOLE.false) gives))) (omega arith)
