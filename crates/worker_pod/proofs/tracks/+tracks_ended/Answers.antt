use Rattle.std.proofs.Common.{rules}
use Rattle.lifecycle.specs.declared.runs.TheConstants.{MAX_RUNS}
use Rattle.worker_pod.proofs.Begun.{beyond_rest}
use Rattle.worker_pod.proofs.tracks.+tracks_ended.Goals as goal

pub returns-in_err-tracks_ended-clause-full : goal.returns-in_err-tracks_ended-clause-full
returns-in_err-tracks_ended-clause-full t c = search (
  rules,
  beyond_rest c.in-Some-split_first_mut.track.now c.in-Some-split_first_mut.tracks.now MAX_RUNS
      c.in_err-tracks_ended.ensures.full,
)
