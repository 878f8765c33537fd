use Rattle.std.proofs.Common.{rules, ◌≤◌, ◌-◌, ◌^◌, arith}
use Rattle.std.proofs.Math.Pow.{pow_mono}
use Rattle.lifecycle.proofs.back_off.wait.Goals as goal

pub returns-in_default : goal.returns-in_default
returns-in_default c =
    let far : 5 ≤ c.args.row - 1 = search rules in
    let grown : 2 ^ 5 ≤ 2 ^ (c.args.row - 1) = pow_mono far in
    omega (arith, grown)
