use Rattle.std.proofs.Common.{◌≡◌, drop}
use Rattle.worker_pod.specs.ContainerActions.{soonest, soonest_from}
use Rattle.worker_pod.proofs.turns.soonest.Given as goal

abbrev pub invariant-loop-at : goal.invariant-loop-at
invariant-loop-at l = soonest_from l.policy l.poll l.front l.at l.best (drop l.at l.tracks)
    ≡ soonest l.policy l.poll l.tracks
