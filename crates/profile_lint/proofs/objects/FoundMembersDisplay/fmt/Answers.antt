use Rattle.std.proofs.Common.{sym}
use Rattle.profile_lint.proofs.objects.FoundMembersDisplay.fmt.Goals as goal

pub returns-in-EnginesDiffer-clause-writes : goal.returns-in-EnginesDiffer-clause-writes
returns-in-EnginesDiffer-clause-writes g c = rw c.in-EnginesDiffer.is c.write.ensures.writes

pub returns-in-NewerCalls-clause-writes : goal.returns-in-NewerCalls-clause-writes
returns-in-NewerCalls-clause-writes g c =
    rw c.in-NewerCalls.is (rw (sym c.limit.ensures) c.write-in-NewerCalls.ensures.writes)
