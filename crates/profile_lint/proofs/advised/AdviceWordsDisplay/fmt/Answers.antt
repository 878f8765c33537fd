use Rattle.profile_lint.specs.Advised.{advice_words}
use Rattle.profile_lint.proofs.advised.AdviceWordsDisplay.fmt.Goals as goal

pub returns-in-Bypass-clause-writes : goal.returns-in-Bypass-clause-writes
unfolding advice_words
returns-in-Bypass-clause-writes g c = rw c.in-Bypass.is c.write-in-Bypass.ensures.writes
