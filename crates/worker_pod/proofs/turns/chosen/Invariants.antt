use Rattle.std.proofs.Common.{◌≡◌, drop}
use Rattle.worker_pod.specs.ContainerActions.{chosen, chosen_from}
use Rattle.worker_pod.proofs.turns.chosen.Given as goal

abbrev pub invariant-loop-at : goal.invariant-loop-at
invariant-loop-at l = chosen_from l.policy l.poll l.now l.front l.at l.best (drop l.at l.tracks)
    ≡ chosen l.policy l.poll l.now l.tracks
