-- Which init containers have succeeded when another container's turn has come.
use Rattle.std.proofs.Common.{◌≡◌, ℕ, ◌<◌, ◌≤◌, ◌==◌, Bool, true, false, not, ◌&&◌, if◌then◌else◌, List}
use Rattle.std.proofs.Common.{length, Option, Some, None, slice_get, get_or, nat_lt, cond, refl, sym, ◌∙◌, ap}
use Rattle.std.proofs.Common.{arith}
use Rattle.std.proofs.lemmas.Bool.{eqb-true, ltb-false}
use Rattle.std.proofs.lemmas.List.Quantifiers.{position-Some}
use Rattle.std.proofs.lemmas.List.Sums.{fails_before_first}
use Rattle.std.proofs.lemmas.Option.{slice_get_within, get_or_from_slice_get}
use Rattle.std.specs.List.{position_or_len}
use Rattle.std.specs.Option.{option_map}
use Rattle.lifecycle.specs.BackOff.{Run, last_of}
use Rattle.lifecycle.specs.Restart.{may_restart}
use Rattle.lifecycle.specs.Tracks.{ended_code, ended_in, finished_with, is_succeeded}
use Rattle.lifecycle.specs.declared.policy.RestartPolicy.{RestartPolicy}
use Rattle.lifecycle.specs.declared.track.Stage.{Stage}
use Rattle.lifecycle.specs.declared.track.Stage.TheVariants as stage
use Rattle.lifecycle.specs.declared.track.Track.{Track}
use Rattle.worker_pod.specs.Laws.{EndedWell}
use Rattle.worker_pod.specs.ContainerActions.{front_of, is_in_turn}
use Rattle.worker_pod.proofs.Offers.{and_left}

-- ended with code 0
code_is : (policy : RestartPolicy) (init : Bool) (code : Option ℕ)
    → finished_with policy init (λ code. code == 0) code ≡ true → code ≡ Some 0
code_is policy init None e = absurd cc
code_is policy init (Some code) e = by_restart (may_restart policy init code) e where
  by_restart : (b : Bool) → (if b then false else code == 0) ≡ true → Some code ≡ Some 0
  by_restart true h = absurd cc
  by_restart false h = ap (λ (n : ℕ). Some n) (eqb-true code 0 h)

run_is : (run : Option Run) → option_map (λ (run : Run). run.code) run ≡ Some 0 → (r : Run) × (run ≡ Some r)
    × (r.code ≡ 0)
run_is None e = absurd cc
run_is (Some r) e = (r, refl, cc)

last_is : (s : Stage) (runs : List Run) → ended_in s runs ≡ Some 0 → (r : Run) × (last_of runs ≡ Some r)
    × (r.code ≡ 0)
last_is (stage.Running attempt started polled) runs e = absurd cc
last_is stage.Absent runs e = run_is (last_of runs) e
last_is (stage.Made attempt) runs e = run_is (last_of runs) e
last_is (stage.Exited attempt) runs e = run_is (last_of runs) e
last_is (stage.Removed attempt) runs e = run_is (last_of runs) e

ended_well : (policy : RestartPolicy) (t : Track) → is_succeeded policy t ≡ true → EndedWell policy t
ended_well policy t e =
    let found : (r : Run) × (last_of t.runs ≡ Some r) × (r.code ≡ 0) =
    last_is t.stage t.runs (code_is policy t.init (ended_code t) e) in
    record { over = e; run = found.0; last = found.1; zero = found.2 }

-- an init container that has not succeeded
abbrev is_open : RestartPolicy → Track → Bool
is_open policy t = t.init && not (is_succeeded policy t)

open_not : (init succeeded : Bool) → (init && not succeeded) ≡ false → init ≡ true → succeeded ≡ true
open_not true true e i = refl
open_not true false e i = absurd cc
open_not false succeeded e i = absurd cc

passed : (policy : RestartPolicy) (t : Track) → is_open policy t ≡ false → t.init ≡ true → EndedWell policy t
passed policy t e i = ended_well policy t (open_not t.init (is_succeeded policy t) e i)

not_open : (policy : RestartPolicy) (tracks : List Track) (at : ℕ) (t : Track) → slice_get tracks at ≡ Some t
    → is_open policy (get_or tracks at t) ≡ false → t.init ≡ true → EndedWell policy t
not_open policy tracks at t here e i =
    let same : get_or tracks at t ≡ t = get_or_from_slice_get tracks at t t here in
    passed policy t (ap (is_open policy) (sym same) ∙ e) i

-- none is open
none_open : (b : Bool) (place : ℕ) → cond b (Some place) None ≡ None → b ≡ false
none_open true place e = absurd cc
none_open false place e = refl

-- the init containers before the place, and all of them if the place is not an init container's
pub in_front : (policy : RestartPolicy) (tracks : List Track) (front : Option ℕ)
    → front_of policy tracks ≡ front
    → (place : ℕ) (track : Track) → slice_get tracks place ≡ Some track → is_in_turn front place track ≡ true
    → (at : ℕ) (t : Track) → slice_get tracks at ≡ Some t → t.init ≡ true → (track.init ≡ true → at < place)
    → EndedWell policy t
in_front policy tracks None e place track there turn at t here i before =
    let past : nat_lt (position_or_len (is_open policy) tracks) (length tracks) ≡ false =
    none_open (nat_lt (position_or_len (is_open policy) tracks) (length tracks))
    (position_or_len (is_open policy) tracks) e in
    let whole : length tracks ≤ position_or_len (is_open policy) tracks = ltb-false _ _ past in
    let within : at < length tracks = slice_get_within tracks at t here in
    not_open policy tracks at t here (fails_before_first (is_open policy) tracks at t
    (omega (arith, whole, within))) i
in_front policy tracks (Some first) e place track there turn at t here i before =
    let found : (first < length tracks) × (is_open policy (get_or tracks first track) ≡ true)
    × ((k : ℕ) → k < first → is_open policy (get_or tracks k track) ≡ false) =
    position-Some (is_open policy) tracks first track e in
    let is : place ≡ first = eqb-true place first turn in
    let same : get_or tracks first track ≡ track =
    rw (← is) (get_or_from_slice_get tracks place track track there) in
    let still : is_open policy track ≡ true = ap (is_open policy) (sym same) ∙ found.1 in
    let less : at < first = omega (
      arith,
      is,
      before (and_left track.init (not (is_succeeded policy track)) still),
    ) in
    let own : (first < length tracks) × (is_open policy (get_or tracks first t) ≡ true)
    × ((k : ℕ) → k < first → is_open policy (get_or tracks k t) ≡ false) =
    position-Some (is_open policy) tracks first t e in
    not_open policy tracks at t here (own.2 at less) i
