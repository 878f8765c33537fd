use Rattle.worker_pod.proofs.Dues.{due_when_next}
use Rattle.worker_pod.proofs.laws.due_is_when_next_is.Goals as goal

pub returns : goal.returns
returns c = due_when_next
