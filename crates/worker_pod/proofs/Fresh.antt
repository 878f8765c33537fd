-- When the running attempts of a pod were started.
use Rattle.std.proofs.Common.{◌≡◌, ℕ, ◌≤◌, nat_lt, List, [], ◌∷◌, length, map, arith}
use Rattle.std.specs.List.{range_with_len}
use Rattle.lifecycle.specs.declared.track.Stage.{Stage}
use Rattle.lifecycle.specs.declared.track.Stage.TheVariants as stage
use Rattle.lifecycle.specs.declared.track.Track.{Track}
use Rattle.manifest.specs.Containers.{ContainerList}
use Rattle.worker_pod.specs.Past.{fresh_tracks}
use Rattle.worker_pod.specs.Tracks.{AllStartedBy, StartedBy, fresh}

none_started : (c : ContainerList) (places : List ℕ)
    → AllStartedBy 0 (map (λ place. fresh (nat_lt place c.inits)) places)
unfolding AllStartedBy
none_started c [] = tt
none_started c (place ∷ places) = (tt, none_started c places)

-- nothing runs, for a pod without claims
pub fresh_started : (c : ContainerList) (tracks : List Track) → tracks ≡ fresh_tracks c
    → AllStartedBy 0 tracks
fresh_started c tracks e = rw e (none_started c (range_with_len 0 (length c.all)))

started_later : (now later : ℕ) → now ≤ later → (s : Stage) → StartedBy now s → StartedBy later s
started_later now later l stage.Absent b = b
started_later now later l (stage.Made attempt) b = b
started_later now later l (stage.Running attempt started polled) b = omega (arith, l, b)
started_later now later l (stage.Exited attempt) b = b
started_later now later l (stage.Removed attempt) b = b

-- by a moment, and so by a later one
pub all_later : (now later : ℕ) → now ≤ later → (tracks : List Track) → AllStartedBy now tracks
    → AllStartedBy later tracks
unfolding AllStartedBy
all_later now later l [] b = b
all_later now later l (t ∷ ts) b = (started_later now later l t.stage b.0, all_later now later l ts b.1)
