use Rattle.worker_pod.proofs.Creations.{creation}
use Rattle.worker_pod.proofs.laws.creations_follow.Goals as goal

pub returns : goal.returns
returns c = creation
