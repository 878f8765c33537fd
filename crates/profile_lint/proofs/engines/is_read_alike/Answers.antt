use Rattle.std.proofs.Common.{arith, sym}
use Rattle.std.proofs.lemmas.Grind.{common_steps}
use Rattle.profile_lint.proofs.Alike.{bare_alike, unnamed_alike}
use Rattle.profile_lint.proofs.engines.is_read_alike.Goals as goal

pub returns-then-is_kept_of : goal.returns-then-is_kept_of
returns-then-is_kept_of c is = bare_alike c.args.profile.now c.args.place c.args.entry.now c.requires
    (sym c.if-is_kept_of.ensures)

pub returns : goal.returns
returns c is = unnamed_alike c.args.profile.now c.args.place c.args.entry.now c.requires
    (grind (arith, common_steps))
