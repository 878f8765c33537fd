use Rattle.profile_lint.specs.Advised.{advice_members}
use Rattle.profile_lint.proofs.advised.AdviceMembersDisplay.fmt.Goals as goal

pub returns-in-WideArgument-clause-writes : goal.returns-in-WideArgument-clause-writes
unfolding advice_members
returns-in-WideArgument-clause-writes g c = rw c.in-WideArgument.is c.write.ensures.writes
