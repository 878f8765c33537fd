use Rattle.worker_pod.proofs.Pasts.{was_told}
use Rattle.worker_pod.proofs.laws.runs_were_told.Goals as goal

pub returns : goal.returns
returns c = was_told
