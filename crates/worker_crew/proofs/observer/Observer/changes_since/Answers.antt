use Rattle.std.proofs.Common.{◌∙◌, ap}
use Rattle.node_watch.specs.Seen.{containers_seen}
use Rattle.worker_crew.proofs.Changed.{made_so}
use Rattle.worker_crew.proofs.observer.Observer.changes_since.Goals as goal

pub returns : goal.returns
returns c = made_so c.pod_changes.result
    (λ text is. (
      c.in_ok-seen.seen,
      c.in_ok-seen.ensures.uid,
      c.in_ok-seen.ensures.phase,
      c.in_ok-seen.ensures.containers
          ∙ ap (λ beside. containers_seen c.args.view.pod.now.policy c.args.view.pod.now.uid beside.counts
          c.args.view.pod.now.containers.all c.args.view.tracks.now) c.self.view_is,
      is,
    )) c.pod_changes.ensures
