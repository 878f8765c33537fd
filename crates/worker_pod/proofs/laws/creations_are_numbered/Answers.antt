use Rattle.worker_pod.proofs.Numbers.{creations_numbered}
use Rattle.worker_pod.proofs.laws.creations_are_numbered.Goals as goal

pub returns : goal.returns
returns c = creations_numbered
