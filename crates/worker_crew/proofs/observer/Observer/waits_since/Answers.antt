use Rattle.std.proofs.Common.{◌∙◌, ap}
use Rattle.node_watch.specs.Waits.{waits_of}
use Rattle.worker_crew.proofs.Changed.{made_so}
use Rattle.worker_crew.proofs.observer.Observer.waits_since.Goals as goal

pub returns : goal.returns
returns c = made_so c.wait_changes.result
    (λ text is. (
      c.in_ok-waits.waits,
      c.in_ok-waits.ensures.uid,
      c.in_ok-waits.ensures.containers
          ∙ ap (λ beside. waits_of c.args.view.pod.now.policy c.args.view.pod.now.uid beside.reasons c.args.moment
          c.args.view.pod.now.containers.all c.args.view.tracks.now) c.self.view_is,
      is,
    )) c.wait_changes.ensures
