-- How many runs of a pod's containers began.
use Rattle.std.proofs.Common.{◌≡◌, ℕ, ◌+◌, ◌<◌, ◌≤◌, nat_lt, Bool, true, false, ◌==◌, if◌then◌else◌, List, []}
use Rattle.std.proofs.Common.{◌∷◌, length, map, Option, Some, None, refl, length-append, arith}
use Rattle.std.specs.List.{range_with_len}
use Rattle.std.specs.Option.{is_some}
use Rattle.lifecycle.specs.BackOff.{Run}
use Rattle.lifecycle.specs.declared.track.Stage.{Stage}
use Rattle.lifecycle.specs.declared.track.Stage.TheVariants as stage
use Rattle.lifecycle.specs.declared.track.Track.{Track}
use Rattle.manifest.specs.Containers.{ContainerList}
use Rattle.manifest.specs.declared.containers.Container.{Container}
use Rattle.cri_msgs.specs.declared.calls.Request.{Request}
use Rattle.worker_pod.specs.declared.update.StatusUpdate.{StatusUpdate}
use Rattle.worker_pod.specs.declared.update.StatusUpdate.TheVariants as update
use Rattle.worker_pod.specs.declared.settings.Outcome.{Outcome}
use Rattle.worker_pod.specs.Updates.{told_of}
use Rattle.worker_pod.specs.Past.{fresh_tracks}
use Rattle.worker_pod.specs.Tracks.{AllWithin, begun_of, exit_at, fresh, run_after, run_at, run_by}
use Rattle.worker_pod.specs.Tracks.{running_in, stage_at, stage_by, track_after, tracks_after, with_run}
use Rattle.worker_pod.specs.Tracks.{worked_in}

none_begun : (c : ContainerList) (places : List ℕ)
    → AllWithin 0 (map (λ place. fresh (nat_lt place c.inits)) places)
unfolding AllWithin
none_begun c [] = tt
none_begun c (place ∷ places) = (omega arith, none_begun c places)

-- none, for a pod without claims
pub fresh_within : (c : ContainerList) (tracks : List Track) → tracks ≡ fresh_tracks c → AllWithin 0 tracks
fresh_within c tracks e = rw e (none_begun c (range_with_len 0 (length c.all)))

-- a run that is going on counts
abbrev going : Stage → ℕ
going s = if is_some (running_in s) then 1 else 0

abbrev counted : List Run → Stage → ℕ
counted runs s = length runs + going s

-- An update on an attempt begins at most one run of it:
module _ (now of most : ℕ) (runs : List Run) where
  started_grows : (attempt : ℕ) (b : Bool) → length runs ≤ most
      → counted runs (if b then stage.Running attempt now None else stage.Made attempt) ≤ most + 1
  started_grows attempt true few = omega (arith, few)
  started_grows attempt false few = omega (arith, few)

  seen_grows : (attempt started : ℕ) (polled : Option ℕ) (b : Bool) → length runs + 1 ≤ most
      → counted runs (if b then stage.Running attempt started (Some now)
      else stage.Running attempt started polled) ≤ most + 1
  seen_grows attempt started polled true few = omega (arith, few)
  seen_grows attempt started polled false few = omega (arith, few)

  cleared_grows : (attempt : ℕ) (b : Bool) → length runs ≤ most
      → counted runs (if b then stage.Removed attempt else stage.Exited attempt) ≤ most + 1
  cleared_grows attempt true few = omega (arith, few)
  cleared_grows attempt false few = omega (arith, few)

  -- at an exit the one that is going on is recorded
  exited_grows : (attempt started : ℕ) (polled : Option ℕ) (run : Run) (b : Bool) → length runs + 1 ≤ most
      → counted (with_run (if b then Some run else None) runs)
      (if b then stage.Exited attempt else stage.Running attempt started polled) ≤ most + 1
  exited_grows attempt started polled run true few = omega (arith, few, length-append runs (run ∷ []))
  exited_grows attempt started polled run false few = omega (arith, few)

  grown_at : (n : StatusUpdate) (s : Stage) → counted runs s ≤ most
      → counted (with_run (run_at now of n s) runs) (stage_at now of n s) ≤ most + 1
  grown_at update.Lost s few = omega (arith, few)
  grown_at update.Refused s few = omega (arith, few)
  grown_at update.SandboxReady s few = omega (arith, few)
  grown_at update.SandboxStopped s few = omega (arith, few)
  grown_at update.SandboxRemoved s few = omega (arith, few)
  grown_at update.Made s few = omega (arith, few)
  grown_at update.Started stage.Absent few = omega (arith, few)
  grown_at update.Started (stage.Made attempt) few =
      started_grows attempt (attempt == of) (omega (arith, few))
  grown_at update.Started (stage.Running attempt started polled) few = omega (arith, few)
  grown_at update.Started (stage.Exited attempt) few = omega (arith, few)
  grown_at update.Started (stage.Removed attempt) few = omega (arith, few)
  grown_at update.NotExited stage.Absent few = omega (arith, few)
  grown_at update.NotExited (stage.Made attempt) few = omega (arith, few)
  grown_at update.NotExited (stage.Running attempt started polled) few =
      seen_grows attempt started polled (attempt == of) few
  grown_at update.NotExited (stage.Exited attempt) few = omega (arith, few)
  grown_at update.NotExited (stage.Removed attempt) few = omega (arith, few)
  grown_at (update.Exited code) stage.Absent few = omega (arith, few)
  grown_at (update.Exited code) (stage.Made attempt) few = omega (arith, few)
  grown_at (update.Exited code) (stage.Running attempt started polled) few =
      exited_grows attempt started polled (record { started = started; code = code; recorded = now })
      (attempt == of) few
  grown_at (update.Exited code) (stage.Exited attempt) few = omega (arith, few)
  grown_at (update.Exited code) (stage.Removed attempt) few = omega (arith, few)
  grown_at update.Cleared stage.Absent few = omega (arith, few)
  grown_at update.Cleared (stage.Made attempt) few = omega (arith, few)
  grown_at update.Cleared (stage.Running attempt started polled) few = omega (arith, few)
  grown_at update.Cleared (stage.Exited attempt) few =
      cleared_grows attempt (attempt == of) (omega (arith, few))
  grown_at update.Cleared (stage.Removed attempt) few = omega (arith, few)
  grown_at update.Nothing s few = omega (arith, few)

-- and so does the end of a claim, for each container
module _ (now : ℕ) (request : Request) (how : Outcome) where
  track_grown : (name : List ℕ) (t : Track) (most : ℕ) → begun_of t ≤ most
      → begun_of (track_after now request how name t) ≤ most + 1
  track_grown name t most few = by_attempt (worked_in request.call name t.stage) where
    by_attempt : (of : Option ℕ) → counted (with_run (run_by now request how name t.stage of) t.runs)
        (stage_by now request how name t.stage of) ≤ most + 1
    by_attempt None = omega (arith, few)
    by_attempt (Some of) = grown_at now of most t.runs (told_of name of request how) t.stage few

  all_more : (most : ℕ) (ts : List Track) → AllWithin most ts → AllWithin (most + 1) ts
  unfolding AllWithin
  all_more most [] few = few
  all_more most (t ∷ ts) few = (omega (arith, few.0), all_more most ts few.1)

  tracks_grown : (cs : List Container) (ts : List Track) (most : ℕ) → AllWithin most ts
      → AllWithin (most + 1) (tracks_after now request how cs ts)
  unfolding AllWithin
  tracks_grown [] ts most few = all_more most ts few
  tracks_grown (c ∷ cs) [] most few = few
  tracks_grown (c ∷ cs) (t ∷ ts) most few =
      (track_grown c.name t most few.0, tracks_grown cs ts most few.1)

  pub all_grown : (cs : List Container) (old new : List Track) → new ≡ tracks_after now request how cs old
      → (most : ℕ) → AllWithin most old → AllWithin (most + 1) new
  all_grown cs old new e most few = rw e (tracks_grown cs old most few)

-- A recorded run was going on before.
exits_going : (now of code : ℕ) (s : Stage) → is_some (exit_at now of code s) ≡ true → going s ≡ 1
exits_going now of code stage.Absent e = absurd cc
exits_going now of code (stage.Made attempt) e = absurd cc
exits_going now of code (stage.Running attempt started polled) e = refl
exits_going now of code (stage.Exited attempt) e = absurd cc
exits_going now of code (stage.Removed attempt) e = absurd cc

ends_going : (now of : ℕ) (n : StatusUpdate) (s : Stage) → is_some (run_at now of n s) ≡ true → going s ≡ 1
ends_going now of update.Lost s e = absurd cc
ends_going now of update.Refused s e = absurd cc
ends_going now of update.SandboxReady s e = absurd cc
ends_going now of update.SandboxStopped s e = absurd cc
ends_going now of update.SandboxRemoved s e = absurd cc
ends_going now of update.Made s e = absurd cc
ends_going now of update.Started s e = absurd cc
ends_going now of update.NotExited s e = absurd cc
ends_going now of (update.Exited code) s e = exits_going now of code s e
ends_going now of update.Cleared s e = absurd cc
ends_going now of update.Nothing s e = absurd cc

was_going : (now : ℕ) (request : Request) (how : Outcome) (name : List ℕ) (s : Stage)
    → is_some (run_after now request how name s) ≡ true → going s ≡ 1
was_going now request how name s = by_attempt (worked_in request.call name s) where
  by_attempt : (of : Option ℕ) → is_some (run_by now request how name s of) ≡ true → going s ≡ 1
  by_attempt None e = absurd cc
  by_attempt (Some of) e = ends_going now of (told_of name of request how) s e

-- so if no other run can be recorded, more of them began
pub beyond_first : (now : ℕ) (request : Request) (how : Outcome) (name : List ℕ) (t : Track) (ts : List Track)
    (limit : ℕ) → is_some (run_after now request how name t.stage) ≡ true → limit ≤ length t.runs
    → (most : ℕ) → AllWithin most (t ∷ ts) → limit < most
unfolding AllWithin
beyond_first now request how name t ts limit ends full most few =
    omega (arith, full, few.0, was_going now request how name t.stage ends)

pub beyond_rest : (t : Track) (ts : List Track) (limit : ℕ) → ((most : ℕ) → AllWithin most ts → limit < most)
    → (most : ℕ) → AllWithin most (t ∷ ts) → limit < most
unfolding AllWithin
beyond_rest t ts limit full most few = full most few.1
