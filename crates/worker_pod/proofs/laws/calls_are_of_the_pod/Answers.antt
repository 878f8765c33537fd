use Rattle.worker_pod.proofs.Uids.{of_the_pod}
use Rattle.worker_pod.proofs.laws.calls_are_of_the_pod.Goals as goal

pub returns : goal.returns
returns c = of_the_pod
