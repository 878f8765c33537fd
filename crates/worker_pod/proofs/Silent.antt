-- A claim that was given up records nothing.
use Rattle.std.proofs.Common.{◌≡◌, ℕ, true, false, ◌||◌, List, [], ◌∷◌, Option, Some, None, refl}
use Rattle.std.specs.Option.{is_some}
use Rattle.lifecycle.specs.declared.track.Track.{Track}
use Rattle.manifest.specs.declared.containers.Container.{Container}
use Rattle.cri_msgs.specs.declared.calls.Request.{Request}
use Rattle.worker_pod.specs.declared.settings.Outcome.{Outcome}
use Rattle.worker_pod.specs.declared.settings.Outcome.TheVariants.{Abandoned}
use Rattle.worker_pod.specs.Tracks.{records_in, run_by, worked_in}

none_recorded : (now : ℕ) (request : Request) (cs : List Container) (ts : List Track)
    → records_in now request Abandoned cs ts ≡ false
none_recorded now request [] ts = refl
none_recorded now request (c ∷ cs) [] = refl
none_recorded now request (c ∷ cs) (t ∷ ts) =
    by_attempt (worked_in request.call c.name t.stage) (none_recorded now request cs ts) where
      by_attempt : (of : Option ℕ) → records_in now request Abandoned cs ts ≡ false
          → (is_some (run_by now request Abandoned c.name t.stage of)
          || records_in now request Abandoned cs ts)
          ≡ false
      by_attempt None e = e
      by_attempt (Some of) e = e

pub given_up : (now : ℕ) (request : Request) (how : Outcome) (cs : List Container) (ts : List Track)
    → records_in now request how cs ts ≡ true → how ≡ Abandoned → ⊥
given_up now request how cs ts recorded e =
    let never : records_in now request Abandoned cs ts ≡ true = rw (← e) recorded in
    let not : records_in now request Abandoned cs ts ≡ false = none_recorded now request cs ts in
    cc
