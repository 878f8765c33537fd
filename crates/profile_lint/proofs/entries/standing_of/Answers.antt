use Rattle.std.proofs.Common.{◌≡◌, arith, length}
use Rattle.std.proofs.lemmas.Grind.{common_steps}
use Rattle.profile_lint.proofs.Near.{unnamed_stands}
use Rattle.profile_lint.proofs.entries.standing_of.Goals as goal

pub returns-then-is_empty : goal.returns-then-is_empty
returns-then-is_empty c entry there =
    let same : c.args.entry.now ≡ entry = cc (c.requires, there) in
    let none : length c.args.entry.now.numbers ≡ 0 = grind (arith, common_steps) in
    unnamed_stands c.args.profile.now c.args.place entry there (rw same at none)
