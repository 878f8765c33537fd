use Rattle.compile.proofs.Common.{ℕ, ◌-◌, refl, subst, sym, arith, Gives, data_word}
use Rattle.std.proofs.lemmas.Bool.{eqb-true}
use Rattle.compile.proofs.Building.{load_gives}
use Rattle.compile.proofs.code.Code.loads.Goals as goal

pub returns : goal.returns
returns c = λ same. (
  omega (arith, c.if-place-len.false, c.len.ensures),
  λ call a value most gives.
      let P : ℕ → Type 0 = λ k. Gives c.args.self.now call (c.args.place - 1) (data_word call k) value most in
      load_gives c.at-insn.result c.args.self.now call c.args.place a value most c.at-insn.ensures.stands
      (c.if-not-is_load.ensures refl) c.at-insn.ensures.inside
      (subst P (sym (eqb-true c.at-insn.result.k c.args.offset same)) gives),
)
