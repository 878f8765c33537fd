use Rattle.std.proofs.Common.{length}
use Rattle.worker_pod.proofs.tracks.+tracks_ended.Given as goal

abbrev pub decreases-tracks_ended : goal.decreases-tracks_ended
decreases-tracks_ended l = length l.containers.now
