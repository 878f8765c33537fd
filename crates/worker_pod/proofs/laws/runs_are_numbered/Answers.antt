use Rattle.worker_pod.proofs.Numbers.{runs_numbered}
use Rattle.worker_pod.proofs.laws.runs_are_numbered.Goals as goal

pub returns : goal.returns
returns c = runs_numbered
