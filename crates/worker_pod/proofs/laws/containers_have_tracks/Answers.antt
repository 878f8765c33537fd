use Rattle.worker_pod.proofs.Places.{init_is, length_is}
use Rattle.worker_pod.proofs.laws.containers_have_tracks.Goals as goal

pub returns-clause-count : goal.returns-clause-count
returns-clause-count c = length_is

pub returns-clause-inits : goal.returns-clause-inits
returns-clause-inits c = init_is
