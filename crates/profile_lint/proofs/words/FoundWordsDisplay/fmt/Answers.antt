use Rattle.std.proofs.Common.{sym}
use Rattle.profile_lint.proofs.words.FoundWordsDisplay.fmt.Goals as goal

pub returns-in-Overlap-clause-writes : goal.returns-in-Overlap-clause-writes
returns-in-Overlap-clause-writes g c = rw c.in-Overlap.is c.write-in-Overlap.ensures.writes

pub returns-in-NewerCalls-clause-writes : goal.returns-in-NewerCalls-clause-writes
returns-in-NewerCalls-clause-writes g c =
    rw c.in-NewerCalls.is (rw (sym c.limit.ensures) c.write-in-NewerCalls.ensures.writes)
