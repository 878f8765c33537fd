use Rattle.compile.proofs.Common.{sym, ◌∙◌}
use Rattle.std.proofs.lemmas.Bool.{eqb-true}
use Rattle.compile.proofs.clause.is_power.Goals as goal

pub returns : goal.returns
returns c = λ same. (c.ilog2.result, sym (eqb-true c.pow.result c.args.number same) ∙ c.pow.ensures)
