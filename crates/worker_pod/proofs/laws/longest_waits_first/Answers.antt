use Rattle.worker_pod.proofs.Waits.{waited_longest}
use Rattle.worker_pod.proofs.laws.longest_waits_first.Goals as goal

pub returns : goal.returns
returns c = waited_longest
