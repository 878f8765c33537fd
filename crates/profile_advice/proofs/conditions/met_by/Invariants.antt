-- The conditions before do not test this argument.
use Rattle.std.proofs.Common.{◌≡◌, drop}
use Rattle.profile_advice.specs.Conditions.{met_by}
use Rattle.profile_advice.proofs.conditions.met_by.Given as goal

abbrev pub invariant-loop-cond : goal.invariant-loop-cond
invariant-loop-cond l = met_by (drop l.cond-index l.conds) l.index ≡ met_by l.conds l.index
