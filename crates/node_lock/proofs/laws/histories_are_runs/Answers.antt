use Rattle.node_lock.proofs.Runs.{is_run}
use Rattle.node_lock.proofs.laws.histories_are_runs.Goals as goal

pub returns : goal.returns
returns c = is_run
