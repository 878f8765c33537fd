use Rattle.compile.proofs.Common.{ℕ, ◌+◌, ◌*◌, ◌^◌, ◌<◌, arith}
use Rattle.compile.proofs.Diagrams.{less_power, quick}
use Rattle.compile.proofs.tree.is_good.Goals as goal

pub returns-clause-balanced : goal.returns-clause-balanced
returns-clause-balanced c = λ few _ digits below.
    let l : ℕ = c.ilog2.result in
    let fewer : 2 ^ l < 2 ^ digits = omega (
      arith,
      c.max.ensures,
      c.ilog2.ensures.power_le,
      c.if-way-counts.false,
      c.if-way-le1.false,
      below,
    ) in
    omega (arith, less_power l digits fewer, quick c.args.way.now.most (13 + 12 * l) few)
