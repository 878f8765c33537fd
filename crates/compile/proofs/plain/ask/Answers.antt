use Rattle.compile.proofs.Common.{ℕ, ◌+◌, ◌-◌, ◌==◌, cond, length, sym, ap, arith, eq-eqb, ne_eqb}
use Rattle.compile.proofs.Common.{on_ok_weaker, bit_and, data_word, holds_of, Atom, WHOLE}
use Rattle.compile.proofs.Building.{gives_more}
use Rattle.compile.proofs.Links.{asked_is}
use Rattle.compile.proofs.Testing.{masked_of, word_of}
use Rattle.compile.proofs.plain.ask.Goals as goal

pub returns-then-atom-clause-gives : goal.returns-then-atom-clause-gives
returns-then-atom-clause-gives c =
    on_ok_weaker c.load.result (λ loads call value most gives a.
    let atom : Atom = c.args.atom.now in
    let word : ℕ = data_word call atom.view.offset in
    gives_more c.load.new.self call (length c.load.new.self - 1) a value (most + 1 + 1)
    (most + cond (atom.view.mask == WHOLE) 2 3)
    (loads call a value (most + 1) (c.in_ok-jump.ensures.gives call word value most
    (asked_is c.args.code.now call atom (λ n. holds_of c.test-test.result.0 c.test-test.result.1 n)
    c.args.hit c.args.miss word value most c.test-test.ensures
    (sym (word_of atom.view call c.if-atom.true)) gives)))
    (omega (arith, ap {B = ℕ} (λ b. cond b 2 3) (eq-eqb atom.view.mask WHOLE c.if-atom.true))))
    c.load.ensures.gives

pub returns-clause-gives : goal.returns-clause-gives
returns-clause-gives c =
    on_ok_weaker c.load-2.result (λ loads call value most gives a.
    let atom : Atom = c.args.atom.now in
    let word : ℕ = data_word call atom.view.offset in
    let seen : ℕ = bit_and word atom.view.mask in
    gives_more c.load-2.new.self call (length c.load-2.new.self - 1) a value (most + 1 + 1 + 1)
    (most + cond (atom.view.mask == WHOLE) 2 3)
    (loads call a value (most + 1 + 1) (c.in_ok-mask.ensures.gives call word value (most + 1)
    (c.in_ok-jump.ensures.gives call seen value most
    (asked_is c.args.code.now call atom (λ n. holds_of c.test-test.result.0 c.test-test.result.1 n)
    c.args.hit c.args.miss seen value most c.test-test.ensures
    (sym (masked_of atom.view call c.if-atom.false)) gives))))
    (omega (arith, ap {B = ℕ} (λ b. cond b 2 3) (ne_eqb atom.view.mask WHOLE c.if-atom.false))))
    c.load-2.ensures.gives
