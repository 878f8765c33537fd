use Rattle.worker_core.proofs.Every.{link_laws, node_laws}
use Rattle.worker_core.proofs.laws.every_run.Goals as goal

pub returns-clause-run : goal.returns-clause-run
returns-clause-run c = node_laws c.calls_are_of_the_pod.ensures c.creations_follow.ensures
    c.due_is_when_next_is.ensures c.runs_were_told.ensures c.creations_are_numbered.ensures
    c.runs_are_numbered.ensures c.containers_have_tracks.ensures.count c.containers_have_tracks.ensures.inits

pub returns-clause-link : goal.returns-clause-link
returns-clause-link c = link_laws c.calls_are_of_the_pod.ensures c.creations_follow.ensures
    c.due_is_when_next_is.ensures c.runs_were_told.ensures c.creations_are_numbered.ensures
    c.runs_are_numbered.ensures c.containers_have_tracks.ensures.count c.containers_have_tracks.ensures.inits
