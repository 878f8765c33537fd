use Rattle.profile_learn.proofs.Summaries.{fresh}
use Rattle.profile_learn.proofs.learned.Learned.new.Goals as goal

pub returns : goal.returns
returns c = record { empty = fresh }
