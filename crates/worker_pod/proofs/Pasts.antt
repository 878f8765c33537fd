-- The kept runs of a container were reported: by induction over the pod's claims.
use Rattle.std.proofs.Common.{◌≡◌, ℕ, Bool, List, [], ◌∷◌, Some, slice_get, nat_lt, inl, inr, sym, ◌∙◌, ap}
use Rattle.std.proofs.lemmas.List.Elements.{All-nil}
use Rattle.std.proofs.lemmas.Option.{same_Some}
use Rattle.lifecycle.specs.BackOff.{Run}
use Rattle.lifecycle.specs.declared.track.Track.{Track}
use Rattle.manifest.specs.declared.containers.Container.{Container}
use Rattle.manifest.specs.declared.pods.Pod.{Pod}
use Rattle.worker_pod.specs.declared.settings.Settings.{Settings}
use Rattle.worker_pod.specs.Laws.{AreOf, RunReported, RunsReported}
use Rattle.worker_pod.specs.Past.{Claimed, read_off}
use Rattle.worker_pod.specs.Tracks.{fresh}
use Rattle.worker_pod.proofs.Exits.{told_behind}
use Rattle.worker_pod.proofs.Places.{changes, fresh_at, pod_is}

never_ended : (uid : List ℕ) (name : List ℕ) (init : Bool) → RunsReported uid [] name (fresh init)
never_ended uid name init = record {
  ended = λ k h. absurd h;
  runs =
      All-nil (λ (run : Run). (k : ℕ) × RunReported uid [] name k run);
}

pub was_told : (settings : Settings) (pod : Pod) (cs : List Claimed) → AreOf pod.uid cs
    → (at : ℕ) (track : Track) (container : Container)
    → slice_get (read_off pod settings cs).tracks at ≡ Some track
    → slice_get pod.containers.all at ≡ Some container → RunsReported pod.uid cs container.name track
was_told settings pod [] of at track container e here =
    rw (← fresh_at pod.containers at track e)
    (never_ended pod.uid container.name (nat_lt at pod.containers.inits))
was_told settings pod (c ∷ cs) of at track container e here =
    let there : slice_get (read_off pod settings cs).pod.containers.all at ≡ Some container =
    ap (λ (p : Pod). slice_get p.containers.all at) (pod_is settings pod cs) ∙ here in
    elim (changes (read_off pod settings cs).pod.containers.all c.moment c.request c.outcome
    (read_off pod settings cs).tracks at track e) [
      | inl h ↦
          let same : h.container ≡ container = same_Some h.container container (sym h.named ∙ there) in
          let was : RunsReported pod.uid cs container.name h.old =
          was_told settings pod cs of.1 at h.old container h.here here in
          rw (← h.is, same) (told_behind pod.uid c cs container.name h.old of.0 was)
      | inr h ↦ absurd cc
    ]
