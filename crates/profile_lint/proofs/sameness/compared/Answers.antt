use Rattle.profile_lint.proofs.Compared.{differ, same}
use Rattle.profile_lint.proofs.sameness.compared.Goals as goal

pub returns-in-Same : goal.returns-in-Same
returns-in-Same c = same c.args.one.now c.args.other.now _ _ _ c.runs_are_determined.ensures.value
    c.in-Ok.ensures.means c.in-Ok-compile.ensures.means c.in-Same.is c.in_ok-compare.ensures

pub returns-in-Differs : goal.returns-in-Differs
returns-in-Differs c = differ c.args.one.now c.args.other.now _ _ _ c.in-Differs.call c.in-Differs.field-1
    c.in-Differs.field-2 c.runs_are_determined.ensures.value
    c.in-Ok.ensures.means c.in-Ok-compile.ensures.means c.in-Differs.is c.in_ok-compare.ensures
