-- Attempts count from 0, so the run at each place is that of the attempt of this number.
use Rattle.std.proofs.Common.{◌≡◌, ◌⊎◌, inl, inr, ℕ, ◌+◌, ◌==◌, Bool, true, false, find, if◌then◌else◌, List}
use Rattle.std.proofs.Common.{[], ◌∷◌, ◌++◌, length, Option, Some, None, nat_lt, slice_get, refl, sym, ◌∙◌}
use Rattle.std.proofs.Common.{ap, subst, suc, zero, length-append, arith}
use Rattle.std.proofs.lemmas.Bool.{eqb-true}
use Rattle.std.proofs.lemmas.Option.{same_Some}
use Rattle.lifecycle.specs.BackOff.{Run}
use Rattle.lifecycle.specs.declared.track.Stage.{Stage}
use Rattle.lifecycle.specs.declared.track.Stage.TheVariants as stage
use Rattle.lifecycle.specs.declared.track.Track.{Track}
use Rattle.manifest.specs.declared.containers.Container.{Container}
use Rattle.manifest.specs.declared.pods.Pod.{Pod}
use Rattle.manifest.specs.declared.profiles.SeccompProfile.{SeccompProfile}
use Rattle.cri_msgs.specs.declared.calls.Call.{Call}
use Rattle.cri_msgs.specs.declared.calls.Call.TheVariants as call
use Rattle.cri_msgs.specs.declared.keys.Key.{Key}
use Rattle.cri_msgs.specs.declared.replies.Answer.{Answer}
use Rattle.cri_msgs.specs.declared.replies.Answer.TheVariants as answer
use Rattle.cri_msgs.specs.declared.states.State.{State}
use Rattle.cri_msgs.specs.declared.states.State.TheVariants as state
use Rattle.cri_msgs.specs.declared.lists.ListedStatus.{ListedStatus}
use Rattle.worker_pod.specs.declared.update.StatusUpdate.{StatusUpdate}
use Rattle.worker_pod.specs.declared.update.StatusUpdate.TheVariants as update
use Rattle.worker_pod.specs.declared.settings.Settings.{Settings}
use Rattle.cri_msgs.specs.Calls.{uid_of}
use Rattle.worker_pod.specs.Laws.{AreNumbered, AreOf, Creation, Follows, IsNumbered, IsNumberedIn, TellsRun}
use Rattle.worker_pod.specs.Laws.{RunReported, key_named}
use Rattle.worker_pod.specs.Updates.{answer_tells_of, cell_tells, done_tells, hearing_of, heard, is_cell_of}
use Rattle.worker_pod.specs.Updates.{list_tells, state_tells, status_tells, statuses_tell_of, told_of}
use Rattle.worker_pod.specs.Next.{next_of}
use Rattle.worker_pod.specs.Past.{Claimed, Kept, Past, held_of, read_off}
use Rattle.worker_pod.specs.Tracks.{cleared_at, exit_at, exited_at, fresh, number_by, run_after, run_at}
use Rattle.worker_pod.specs.Tracks.{run_by, seen_at, stage_after, stage_at, stage_by, started_at, track_after}
use Rattle.worker_pod.specs.Tracks.{with_run, worked_in}
use Rattle.worker_pod.proofs.Creations.{creation}
use Rattle.worker_pod.proofs.Exits.{IsTold, names, told_is, told_more}
use Rattle.worker_pod.proofs.Places.{changes, fresh_at, pod_is}

-- how many runs there are at this stage
abbrev CountIs : Stage → ℕ → Type 0
CountIs stage.Absent n = n ≡ 0
CountIs (stage.Made k) n = k ≡ n
CountIs (stage.Running k started polled) n = k ≡ n
CountIs (stage.Exited k) n = k + 1 ≡ n
CountIs (stage.Removed k) n = k + 1 ≡ n

record Counted (uid : List ℕ) (cs : List Claimed) (name : List ℕ) (track : Track) : Type 0 where
  count : CountIs track.stage (length track.runs)
  each : (k : ℕ) (run : Run) → slice_get track.runs k ≡ Some run → RunReported uid cs name k run

-- Only the update that a container was made can begin an attempt.
done_makes : (n : StatusUpdate) (a : Answer) → done_tells n a ≡ update.Made → n ≡ update.Made
done_makes n answer.Done e = e
done_makes n (answer.Refused refusal) e = absurd cc
done_makes n (answer.Container id) e = absurd cc
done_makes n (answer.Status status) e = absurd cc
done_makes n (answer.List items) e = absurd cc
done_makes n (answer.Statuses items) e = absurd cc

state_silent : (s : State) → state_tells s ≡ update.Made → ⊥
state_silent state.Created e = cc
state_silent state.Running e = cc
state_silent (state.Exited code) e = cc

status_silent : (a : Answer) → status_tells a ≡ update.Made → ⊥
status_silent answer.Done e = cc
status_silent (answer.Refused refusal) e = cc
status_silent (answer.Container id) e = cc
status_silent (answer.Status status) e = state_silent status.state e
status_silent (answer.List items) e = cc
status_silent (answer.Statuses items) e = cc

list_silent : (a : Answer) → list_tells a ≡ update.Made → ⊥
list_silent answer.Done e = cc
list_silent (answer.Refused refusal) e = cc
list_silent (answer.Container id) e = cc
list_silent (answer.Status status) e = cc
list_silent (answer.List items) e = cc
list_silent (answer.Statuses items) e = cc

cell_silent : (o : Option ListedStatus) → cell_tells o ≡ update.Made → ⊥
cell_silent None e = cc
cell_silent (Some listed) e = state_silent listed.status.state e

statuses_silent : (name : List ℕ) (of : ℕ) (a : Answer) → statuses_tell_of name of a ≡ update.Made → ⊥
statuses_silent name of answer.Done e = cc
statuses_silent name of (answer.Refused refusal) e = cc
statuses_silent name of (answer.Container id) e = cc
statuses_silent name of (answer.Status status) e = cc
statuses_silent name of (answer.List items) e = cc
statuses_silent name of (answer.Statuses items) e = cell_silent (find (is_cell_of name of) items) e

-- the claim that began the attempt was of its creation
record IsCreation (c : Call) (name : List ℕ) (of : ℕ) : Type 0 where
  key : Key
  image : List ℕ
  profile : SeccompProfile
  is : c ≡ call.CreateContainer key image profile
  named : key.container.name ≡ name
  attempt : key.container.attempt ≡ of

creation_is : (c : Call) (a : Answer) (name : List ℕ) (s : Stage) (of : ℕ) → worked_in c name s ≡ Some of
    → answer_tells_of name of c a ≡ update.Made → IsCreation c name of
creation_is (call.CreateContainer key image profile) a name s of works e =
    let its : (key.container.name ≡ name) × (key.container.attempt ≡ of) = names key name of works in
    record { key = key; image = image; profile = profile; is = refl; named = its.0; attempt = its.1 }
creation_is (call.RunPodSandbox u) a name s of works e = absurd cc
creation_is (call.StopPodSandbox u grace) a name s of works e = absurd cc
creation_is (call.RemovePodSandbox u) a name s of works e = absurd cc
creation_is (call.StartContainer its) a name s of works e = let never : update.Started ≡ update.Made =
    done_makes update.Started a e in absurd cc
creation_is (call.StopContainer its grace) a name s of works e = let never : update.Nothing ≡ update.Made =
    done_makes update.Nothing a e in absurd cc
creation_is (call.RemoveContainer its) a name s of works e = let never : update.Cleared ≡ update.Made =
    done_makes update.Cleared a e in absurd cc
creation_is (call.ContainerStatus asked) a name s of works e = absurd (status_silent a e)
creation_is (call.ListContainers u) a name s of works e = absurd (list_silent a e)
creation_is (call.ContainerStatuses u) a name s of works e = absurd (statuses_silent name of a e)

by_answer : (c : Claimed) (said : Option Answer) → heard c.request c.outcome ≡ said
    → (name : List ℕ) (s : Stage) (of : ℕ) → worked_in c.request.call name s ≡ Some of
    → hearing_of name of c.request.call said ≡ update.Made → IsCreation c.request.call name of
by_answer c None is name s of works e = absurd cc
by_answer c (Some said) is name s of works e = creation_is c.request.call said name s of works e

-- a stage of the same attempt, with as many runs
started_count : (now of : ℕ) (s : Stage) (n : ℕ) → CountIs s n → CountIs (started_at now of s) n
started_count now of stage.Absent n h = h
started_count now of (stage.Made attempt) n h = by_test (attempt == of) where
  by_test : (b : Bool) → CountIs (if b then stage.Running attempt now None else stage.Made attempt) n
  by_test true = h
  by_test false = h
started_count now of (stage.Running attempt started polled) n h = h
started_count now of (stage.Exited attempt) n h = h
started_count now of (stage.Removed attempt) n h = h

seen_count : (now of : ℕ) (s : Stage) (n : ℕ) → CountIs s n → CountIs (seen_at now of s) n
seen_count now of stage.Absent n h = h
seen_count now of (stage.Made attempt) n h = h
seen_count now of (stage.Running attempt started polled) n h = by_test (attempt == of) where
  by_test : (b : Bool) → CountIs (if b then stage.Running attempt started (Some now)
      else stage.Running attempt started polled) n
  by_test true = h
  by_test false = h
seen_count now of (stage.Exited attempt) n h = h
seen_count now of (stage.Removed attempt) n h = h

cleared_count : (of : ℕ) (s : Stage) (n : ℕ) → CountIs s n → CountIs (cleared_at of s) n
cleared_count of stage.Absent n h = h
cleared_count of (stage.Made attempt) n h = h
cleared_count of (stage.Running attempt started polled) n h = h
cleared_count of (stage.Exited attempt) n h = by_test (attempt == of) where
  by_test : (b : Bool) → CountIs (if b then stage.Removed attempt else stage.Exited attempt) n
  by_test true = h
  by_test false = h
cleared_count of (stage.Removed attempt) n h = h

in_push : (runs : List Run) (run : Run) (k : ℕ) (r : Run) → slice_get (runs ++ run ∷ []) k ≡ Some r
    → (slice_get runs k ≡ Some r) ⊎ ((k ≡ length runs) × (r ≡ run))
in_push [] run zero r e = inr (refl, cc)
in_push [] run (suc k) r e = absurd cc
in_push (x ∷ xs) run zero r e = inl e
in_push (x ∷ xs) run (suc k) r e =
    elim (in_push xs run k r e) [
      | inl old ↦ inl old
      | inr new ↦ inr (omega (arith, new.0), new.1)
    ]

module _ (uid : List ℕ) (c : Claimed) (cs : List Claimed) (name : List ℕ) (old : Track)
    (was : Counted uid cs name old) where
  -- nothing was recorded
  same_runs : (s : Stage) (number : ℕ) → CountIs s (length old.runs)
      → Counted uid (c ∷ cs) name (record { init = old.init; stage = s; runs = old.runs; worked = number })
  same_runs s number count = record {
    count = count;
    each = λ k run here.
        told_more uid c cs name k run (was.each k run here);
  }

  exited : (of code attempt started : ℕ) (polled : Option ℕ)
      → old.stage ≡ stage.Running attempt started polled
      → TellsRun (key_named uid name of) (record { started = started; code = code; recorded = c.moment }) c
      → (b : Bool) → (attempt == of) ≡ b
      → Counted uid (c ∷ cs) name (record {
        init = old.init;
        stage = if b then stage.Exited attempt else stage.Running attempt started polled;
        runs = with_run (if b then Some (record { started = started; code = code; recorded = c.moment })
            else None) old.runs;
        worked = c.request.id;
      })
  exited of code attempt started polled at tells true test =
      let run : Run = record { started = started; code = code; recorded = c.moment } in
      let same : attempt ≡ of = eqb-true attempt of test in
      let count : attempt ≡ length old.runs =
      subst (λ (s : Stage). CountIs s (length old.runs)) at was.count in
      record {
        count = omega (arith, count, length-append old.runs (run ∷ []));
        each = λ k r here.
            elim (in_push old.runs run k r here) [
              | inl before ↦ told_more uid c cs name k r (was.each k r before)
              | inr now ↦
                  let k_is : of ≡ k = omega (arith, same, count, now.0) in
                  subst (λ (x : Run). RunReported uid (c ∷ cs) name k x) (sym now.1)
                  (subst (λ (n : ℕ). RunReported uid (c ∷ cs) name n run) k_is (0, c, omega arith, refl, tells))
            ];
      }
  exited of code attempt started polled at tells false test =
      same_runs (stage.Running attempt started polled) c.request.id
      (subst (λ (s : Stage). CountIs s (length old.runs)) at was.count)

  by_stage : (of code : ℕ) → ((started : ℕ)
      → TellsRun (key_named uid name of) (record { started = started; code = code; recorded = c.moment }) c)
      → (s : Stage) → old.stage ≡ s
      → Counted uid (c ∷ cs) name (record {
        init = old.init;
        stage = exited_at of s;
        runs = with_run (exit_at c.moment of code s) old.runs;
        worked = c.request.id;
      })
  by_stage of code tells (stage.Running attempt started polled) at = exited of
      code attempt started polled at (tells started) (attempt == of) refl
  by_stage of code tells stage.Absent at =
      same_runs stage.Absent c.request.id (subst (λ (s : Stage). CountIs s (length old.runs)) at was.count)
  by_stage of code tells (stage.Made attempt) at =
      same_runs (stage.Made attempt) c.request.id
      (subst (λ (s : Stage). CountIs s (length old.runs)) at was.count)
  by_stage of code tells (stage.Exited attempt) at =
      same_runs (stage.Exited attempt) c.request.id
      (subst (λ (s : Stage). CountIs s (length old.runs)) at was.count)
  by_stage of code tells (stage.Removed attempt) at =
      same_runs (stage.Removed attempt) c.request.id
      (subst (λ (s : Stage). CountIs s (length old.runs)) at was.count)

  by_update : (of : ℕ) (n : StatusUpdate) → ((code : ℕ) → n ≡ update.Exited code → (started : ℕ)
      → TellsRun (key_named uid name of) (record { started = started; code = code; recorded = c.moment }) c)
      → (n ≡ update.Made → of ≡ length old.runs)
      → Counted uid (c ∷ cs) name (record {
        init = old.init;
        stage = stage_at c.moment of n old.stage;
        runs = with_run (run_at c.moment of n old.stage) old.runs;
        worked = c.request.id;
      })
  by_update of (update.Exited code) tells made = by_stage of code (tells code refl) old.stage refl
  by_update of update.Made tells made = same_runs (stage.Made of) c.request.id (made refl)
  by_update of update.Started tells made = same_runs _ c.request.id (started_count c.moment of
      old.stage (length old.runs) was.count)
  by_update of update.NotExited tells made =
      same_runs _ c.request.id (seen_count c.moment of old.stage (length old.runs) was.count)
  by_update of update.Cleared tells made = same_runs _ c.request.id (cleared_count of
      old.stage (length old.runs) was.count)
  by_update of update.Lost tells made = same_runs _ c.request.id was.count
  by_update of update.Refused tells made = same_runs _ c.request.id was.count
  by_update of update.SandboxReady tells made = same_runs _ c.request.id was.count
  by_update of update.SandboxStopped tells made = same_runs _ c.request.id was.count
  by_update of update.SandboxRemoved tells made = same_runs _ c.request.id was.count
  by_update of update.Nothing tells made = same_runs _ c.request.id was.count

  counted_behind : uid_of c.request.call ≡ uid → IsNumbered name old c.request.call
      → Counted uid (c ∷ cs) name (track_after c.moment c.request c.outcome name old)
  counted_behind same numbered = by_attempt (worked_in c.request.call name old.stage) refl where
    by_attempt : (works : Option ℕ) → worked_in c.request.call name old.stage ≡ works
        → Counted uid (c ∷ cs) name (record {
          init = old.init;
          stage = stage_by c.moment c.request c.outcome name old.stage works;
          runs = with_run (run_by c.moment c.request c.outcome name old.stage works) old.runs;
          worked = number_by c.request old.worked works;
        })
    by_attempt None is = same_runs old.stage old.worked was.count
    by_attempt (Some of) is =
        by_update of (told_of name of c.request c.outcome)
        (λ code e started.
        let found : IsTold c.request c.outcome (key_named uid name of) code =
        told_is c.request c.outcome uid name old.stage of code same is e in
        record {
          reply = found.reply;
          is = found.is;
          number = found.number;
          tells = found.tells;
          recorded =
              refl;
        })
        (λ e.
        let made : IsCreation c.request.call name of =
        by_answer c (heard c.request c.outcome) refl name old.stage of is e in
        sym made.attempt ∙ numbered made.key made.image made.profile made.is made.named)

counted : (settings : Settings) (pod : Pod) (cs : List Claimed) → AreOf pod.uid cs
    → AreNumbered settings pod cs → (at : ℕ) (track : Track) (container : Container)
    → slice_get (read_off pod settings cs).tracks at ≡ Some track
    → slice_get pod.containers.all at ≡ Some container → Counted pod.uid cs container.name track
counted settings pod [] of numbered at track container e here =
    subst (Counted pod.uid [] container.name) (fresh_at pod.containers at track e)
    (record { count = refl; each = λ k run none. absurd cc })
counted settings pod (c ∷ cs) of numbered at track container e here =
    let there : slice_get (read_off pod settings cs).pod.containers.all at ≡ Some container =
    ap (λ (p : Pod). slice_get p.containers.all at) (pod_is settings pod cs) ∙ here in
    elim (changes (read_off pod settings cs).pod.containers.all c.moment c.request c.outcome
    (read_off pod settings cs).tracks at track e) [
      | inl h ↦
          let same : h.container ≡ container = same_Some h.container container (sym h.named ∙ there) in
          let was : Counted pod.uid cs container.name h.old =
          counted settings pod cs of.1 numbered.1 at h.old container h.here here in
          let is : track_after c.moment c.request c.outcome container.name h.old ≡ track =
          ap (λ (x : Container). track_after c.moment c.request c.outcome x.name h.old) (sym same)
          ∙ h.is in
          subst (Counted pod.uid (c ∷ cs) container.name) is
          (counted_behind pod.uid c cs container.name h.old was of.0
          (numbered.0 at h.old container h.here here))
      | inr h ↦ absurd cc
    ]

pub runs_numbered : (settings : Settings) (pod : Pod) (cs : List Claimed) → AreOf pod.uid cs
    → AreNumbered settings pod cs → (at : ℕ) (track : Track) (container : Container)
    → slice_get (read_off pod settings cs).tracks at ≡ Some track
    → slice_get pod.containers.all at ≡ Some container
    → (k : ℕ) (run : Run) → slice_get track.runs k ≡ Some run → RunReported pod.uid cs container.name k run
runs_numbered settings pod cs of numbered at track container e here =
    (counted settings pod cs of numbered at track container e here).each

-- containers of one name have one past
record IsAlike (a b : Track) : Type 0 where
  stage : a.stage ≡ b.stage
  runs : a.runs ≡ b.runs

alike : (settings : Settings) (pod : Pod) (cs : List Claimed) (at to : ℕ) (a b : Track)
    (container other : Container)
    → slice_get (read_off pod settings cs).tracks at ≡ Some a → slice_get (read_off pod settings cs).tracks to
    ≡ Some b
    → slice_get pod.containers.all at ≡ Some container → slice_get pod.containers.all to ≡ Some other
    → container.name ≡ other.name → IsAlike a b
alike settings pod [] at to a b container other ea eb ha hb same =
    let fa : fresh (nat_lt at pod.containers.inits) ≡ a = fresh_at pod.containers at a ea in
    let fb : fresh (nat_lt to pod.containers.inits) ≡ b = fresh_at pod.containers to b eb in
    record {
      stage = sym (ap (λ (t : Track). t.stage) fa) ∙ ap (λ (t : Track). t.stage) fb;
      runs =
          sym (ap (λ (t : Track). t.runs) fa) ∙ ap (λ (t : Track). t.runs) fb;
    }
alike settings pod (c ∷ cs) at to a b container other ea eb ha hb same =
    let containers : List Container = (read_off pod settings cs).pod.containers.all in
    let all_is : (i : ℕ) → slice_get containers i ≡ slice_get pod.containers.all i = λ i.
    ap (λ (p : Pod). slice_get p.containers.all i) (pod_is settings pod cs) in
    elim (changes containers c.moment c.request c.outcome (read_off pod settings cs).tracks at a ea) [
      | inr none ↦ let differ : None ≡ Some container = sym none.0 ∙ all_is at ∙ ha in absurd cc
      | inl x ↦ elim (changes containers c.moment c.request c.outcome
          (read_off pod settings cs).tracks to b eb) [
            | inr none ↦ let differ : None ≡ Some other = sym none.0 ∙ all_is to ∙ hb in absurd cc
            | inl y ↦
                let x_is : x.container ≡ container =
                same_Some x.container container (sym x.named ∙ all_is at ∙ ha) in
                let y_is : y.container ≡ other = same_Some y.container other (sym y.named ∙ all_is to ∙ hb) in
                let name_is : x.container.name ≡ y.container.name = ap (λ (k : Container). k.name) x_is ∙ same
                ∙ sym (ap (λ (k : Container). k.name) y_is) in
                let was : IsAlike x.old y.old = alike settings pod cs at to x.old y.old container other x.here
                y.here ha hb same in
                let stage_of : List ℕ → Stage → Stage = λ name s.
                stage_after c.moment c.request c.outcome name s in
                let runs_of : List ℕ → Stage → List Run → List Run = λ name s runs.
                with_run (run_after c.moment c.request c.outcome name s) runs in
                record {
                  stage = sym (ap (λ (t : Track). t.stage) x.is) ∙ (λ i. stage_of (name_is i) (was.stage i))
                      ∙ ap (λ (t : Track). t.stage) y.is;
                  runs = sym (ap (λ (t : Track). t.runs) x.is)
                      ∙ (λ i. runs_of (name_is i) (was.stage i) (was.runs i))
                      ∙ ap (λ (t : Track). t.runs) y.is;
                }
          ]
    ]

-- the attempt that is made is the one whose number is that of the runs
numbered_by : (kept : Kept) (now : ℕ) (key : Key) (image : List ℕ) (profile : SeccompProfile)
    (c : Creation kept now key image profile)
    → CountIs c.track.stage (length c.track.runs) → (n : ℕ) → key.container.attempt ≡ n
    → n ≡ length c.track.runs
numbered_by kept now key image profile c count zero is =
    sym (subst (λ (s : Stage). CountIs s (length c.track.runs)) (c.first is) count)
numbered_by kept now key image profile c count (suc k) is =
    let f : Follows kept.pod.policy c.track k now = c.follows k (is ∙ omega arith) in
    let runs_are : k + 1 ≡ length c.track.runs =
    subst (λ (s : Stage). CountIs s (length c.track.runs)) f.stage count in
    omega (arith, runs_are)

pub creations_numbered : (settings : Settings) (past : Past) (now : ℕ) (its : Call)
    → AreOf past.pod.uid past.claims → AreNumbered settings past.pod past.claims
    → next_of (held_of settings past) now ≡ Some its
    → IsNumberedIn past.pod.containers.all (read_off past.pod settings past.claims).tracks its
creations_numbered settings past now its of
    numbered e at track container here there key image profile is named =
    let kept : Kept = held_of settings past in
    let c : Creation kept now key image profile =
    creation kept now key image profile (e ∙ ap (λ (x : Call). Some x) is) in
    let place_is : slice_get past.pod.containers.all c.place ≡ Some c.container =
    sym (ap (λ (p : Pod). slice_get p.containers.all c.place) (pod_is settings past.pod past.claims))
    ∙ c.named in
    let name_is : container.name ≡ c.container.name = sym named
    ∙ ap (λ (k : Key). k.container.name) c.of_container in
    let same : IsAlike track c.track = alike settings past.pod past.claims at c.place track c.track container
    c.container here c.here there place_is name_is in
    let its_count : Counted past.pod.uid past.claims c.container.name c.track =
    counted settings past.pod past.claims of numbered c.place c.track c.container c.here place_is in
    numbered_by kept now key image profile c its_count.count key.container.attempt refl
    ∙ sym (ap (λ (runs : List Run). length runs) same.runs)
