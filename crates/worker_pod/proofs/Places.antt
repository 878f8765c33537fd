-- What the end of a claim changes among the containers' tracks.
use Rattle.std.proofs.Common.{◌≡◌, ℕ, ◌+◌, List, [], ◌∷◌, length, Option, Some, None, slice_get, nat_lt, ◌⊎◌}
use Rattle.std.proofs.Common.{inl, inr, refl, sym, ◌∙◌, ap, suc, zero, arith}
use Rattle.std.proofs.lemmas.List.FromFn.{length-map-range_with_len}
use Rattle.std.proofs.lemmas.Option.{same_Some, slice_get-map}
use Rattle.std.specs.List.{range_with_len}
use Rattle.std.specs.Option.{option_map}
use Rattle.lifecycle.specs.declared.track.Track.{Track}
use Rattle.manifest.specs.Containers.{ContainerList}
use Rattle.manifest.specs.declared.containers.Container.{Container}
use Rattle.manifest.specs.declared.pods.Pod.{Pod}
use Rattle.cri_msgs.specs.declared.calls.Request.{Request}
use Rattle.worker_pod.specs.declared.settings.Outcome.{Outcome}
use Rattle.worker_pod.specs.declared.settings.Settings.{Settings}
use Rattle.worker_pod.specs.Past.{Claimed, fresh_tracks, read_off}
use Rattle.worker_pod.specs.Tracks.{fresh, track_after, tracks_after}

-- the track is the container's, after the end of a claim
pub record IsBehind (containers : List Container) (now : ℕ) (request : Request) (how : Outcome)
    (tracks : List Track) (at : ℕ) (new : Track) : Type 0 where
  pub container : Container
  pub named : slice_get containers at ≡ Some container
  pub old : Track
  pub here : slice_get tracks at ≡ Some old
  pub is : track_after now request how container.name old ≡ new

-- each container's is, and there are no others
pub changes : (containers : List Container) (now : ℕ) (request : Request) (how : Outcome)
    (tracks : List Track) (at : ℕ) (new : Track)
    → slice_get (tracks_after now request how containers tracks) at ≡ Some new
    → IsBehind containers now request how tracks at new ⊎ ((slice_get containers at ≡ None)
    × (slice_get tracks at ≡ Some new))
changes [] now request how tracks at new e = inr (refl, e)
changes (c ∷ cs) now request how [] at new e = absurd cc
changes (c ∷ cs) now request how (t ∷ ts) zero new e =
    inl (record {
      container = c;
      named = refl;
      old = t;
      here = refl;
      is =
          same_Some (track_after now request how c.name t) new e;
    })
changes (c ∷ cs) now request how (t ∷ ts) (suc at) new e =
    elim (changes cs now request how ts at new e) [
      | inl h ↦ inl (record {
        container = h.container;
        named = h.named;
        old = h.old;
        here = h.here;
        is =
            h.is;
      })
      | inr h ↦ inr h
    ]

length_after : (containers : List Container) (now : ℕ) (request : Request) (how : Outcome)
    (tracks : List Track) → length (tracks_after now request how containers tracks) ≡ length tracks
length_after [] now request how tracks = refl
length_after (c ∷ cs) now request how [] = refl
length_after (c ∷ cs) now request how (t ∷ ts) = ap suc (length_after cs now request how ts)

abbrev fresh_in : ContainerList → ℕ → Track
fresh_in c place = fresh (nat_lt place c.inits)

length_fresh : (c : ContainerList) → length (fresh_tracks c) ≡ length c.all
length_fresh c = length-map-range_with_len (fresh_in c) 0 (length c.all)

-- the manifest stays
pub pod_is : (settings : Settings) (pod : Pod) (cs : List Claimed) → (read_off pod settings cs).pod ≡ pod
pod_is settings pod [] = refl
pod_is settings pod (c ∷ cs) = pod_is settings pod cs

pub length_is : (settings : Settings) (pod : Pod) (cs : List Claimed)
    → length (read_off pod settings cs).tracks ≡ length pod.containers.all
length_is settings pod [] = length_fresh pod.containers
length_is settings pod (c ∷ cs) =
    length_after (read_off pod settings cs).pod.containers.all c.moment c.request c.outcome
    (read_off pod settings cs).tracks
    ∙ length_is settings pod cs

range_at : (a n at k : ℕ) → slice_get (range_with_len a n) at ≡ Some k → k ≡ a + at
range_at a zero at k e = absurd cc
range_at a (suc n) zero k e = let same : a ≡ k = same_Some a k e in omega (arith, same)
range_at a (suc n) (suc at) k e = omega (arith, range_at (a + 1) n at k e)

-- nothing was reported of a container before the first claim
pub fresh_at : (c : ContainerList) (at : ℕ) (t : Track) → slice_get (fresh_tracks c) at ≡ Some t
    → fresh (nat_lt at c.inits) ≡ t
fresh_at c at t e = by_place (slice_get range at) refl (sym (slice_get-map (fresh_in c) range at) ∙ e) where
  range : List ℕ
  range = range_with_len 0 (length c.all)

  by_place : (place : Option ℕ) → slice_get range at ≡ place → option_map (fresh_in c) place ≡ Some t
      → fresh (nat_lt at c.inits) ≡ t
  by_place None is h = absurd cc
  by_place (Some place) is h =
      let there : at ≡ place = omega (arith, range_at 0 (length c.all) at place is) in
      rw there (same_Some (fresh_in c place) t h)

pub init_is : (settings : Settings) (pod : Pod) (cs : List Claimed) (at : ℕ) (t : Track)
    → slice_get (read_off pod settings cs).tracks at ≡ Some t → t.init ≡ nat_lt at pod.containers.inits
init_is settings pod [] at t e = ap (λ (t : Track). t.init) (sym (fresh_at pod.containers at t e))
init_is settings pod (c ∷ cs) at t e =
    elim (changes (read_off pod settings cs).pod.containers.all c.moment c.request c.outcome
    (read_off pod settings cs).tracks at t e) [
      | inl h ↦ ap (λ (t : Track). t.init) (sym h.is) ∙ init_is settings pod cs at h.old h.here
      | inr h ↦ init_is settings pod cs at t h.1
    ]
