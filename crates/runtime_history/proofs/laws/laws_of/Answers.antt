use Rattle.runtime_history.proofs.Lawful.{lawful}
use Rattle.runtime_history.proofs.laws.laws_of.Goals as goal

pub returns : goal.returns
returns g c = lawful _ _ c.is_run.ensures c.every_run.ensures.run c.every_run.ensures.link
