-- Only statuses report an exit, and the effect of one claim on one container's track.
use Rattle.std.proofs.Common.{◌≡◌, ℕ, ◌-◌, ◌==◌, Bool, true, false, cond, find, if◌then◌else◌, List, [], ◌∷◌}
use Rattle.std.proofs.Common.{◌++◌, length, Option, Some, None, slice_get, refl, sym, ◌∙◌, ap, suc}
use Rattle.std.proofs.Common.{length-append, arith}
use Rattle.std.proofs.lemmas.Bool.{eqb-true}
use Rattle.std.proofs.lemmas.List.Elements.{All-push, All-weaker}
use Rattle.std.proofs.lemmas.Slice.Eq.{bytes_eq-Decides}
use Rattle.std.specs.List.{Any}
use Rattle.std.specs.Str.{bytes_eq}
use Rattle.lifecycle.specs.BackOff.{Run, last_of}
use Rattle.lifecycle.specs.declared.track.Stage.{Stage}
use Rattle.lifecycle.specs.declared.track.Stage.TheVariants as stage
use Rattle.lifecycle.specs.declared.track.Track.{Track}
use Rattle.cri_msgs.specs.declared.calls.Call.{Call}
use Rattle.cri_msgs.specs.declared.calls.Call.TheVariants as call
use Rattle.cri_msgs.specs.declared.calls.Request.{Request}
use Rattle.cri_msgs.specs.declared.keys.ContainerMetadata.{ContainerMetadata}
use Rattle.cri_msgs.specs.declared.keys.Key.{Key}
use Rattle.cri_msgs.specs.declared.lists.ListedStatus.{ListedStatus}
use Rattle.cri_msgs.specs.declared.replies.Answer.{Answer}
use Rattle.cri_msgs.specs.declared.replies.Answer.TheVariants as answer
use Rattle.cri_msgs.specs.declared.replies.Reply.{Reply}
use Rattle.cri_msgs.specs.declared.states.State.{State}
use Rattle.cri_msgs.specs.declared.states.State.TheVariants as state
use Rattle.cri_msgs.specs.Tells.{IsExitOf, TellsExit}
use Rattle.worker_pod.specs.declared.update.StatusUpdate.{StatusUpdate}
use Rattle.worker_pod.specs.declared.update.StatusUpdate.TheVariants as update
use Rattle.worker_pod.specs.declared.settings.Outcome.{Outcome}
use Rattle.worker_pod.specs.declared.settings.Outcome.TheVariants as outcome
use Rattle.worker_pod.specs.Updates.{answer_tells_of, cell_tells, done_tells, is_cell_of, hearing_of, heard}
use Rattle.worker_pod.specs.Updates.{made_tells, state_tells, status_tells, statuses_tell_of, told_of}
use Rattle.cri_msgs.specs.Calls.{uid_of}
use Rattle.worker_pod.specs.Laws.{HasEnded, LastRun, RunReported, TellsRun, RunsReported, key_named}
use Rattle.worker_pod.specs.Past.{Claimed}
use Rattle.worker_pod.specs.Tracks.{cleared_at, exit_at, exited_at, named_in, number_by, run_at, run_by}
use Rattle.worker_pod.specs.Tracks.{seen_at, stage_at, stage_by, started_at, track_after, with_run, worked_in}
use Rattle.worker_pod.proofs.Offers.{and_left, and_right}

abbrev metadata : List ℕ → ℕ → ContainerMetadata
metadata name of = record { name = name; attempt = of }

done_silent : (n : StatusUpdate) (a : Answer) (code : ℕ) → done_tells n a ≡ update.Exited code
    → n ≡ update.Exited code
done_silent n answer.Done code e = e
done_silent n (answer.Refused refusal) code e = absurd cc
done_silent n (answer.Container id) code e = absurd cc
done_silent n (answer.Status status) code e = absurd cc
done_silent n (answer.List items) code e = absurd cc
done_silent n (answer.Statuses items) code e = absurd cc

made_silent : (a : Answer) (code : ℕ) → made_tells a ≡ update.Exited code → ⊥
made_silent answer.Done code e = cc
made_silent (answer.Refused refusal) code e = cc
made_silent (answer.Container id) code e = cc
made_silent (answer.Status status) code e = cc
made_silent (answer.List items) code e = cc
made_silent (answer.Statuses items) code e = cc

state_is : (s : State) (code : ℕ) → state_tells s ≡ update.Exited code → s ≡ state.Exited code
state_is state.Created code e = absurd cc
state_is state.Running code e = absurd cc
state_is (state.Exited its) code e = let same : its ≡ code = cc in ap (λ (n : ℕ). state.Exited n) same

name_is : (a b : List ℕ) → bytes_eq a b ≡ true → a ≡ b
name_is a b e = (bytes_eq-Decides a b).0 e

-- the call names the attempt
pub names : (asked : Key) (name : List ℕ) (of : ℕ) → named_in asked name ≡ Some of
    → (asked.container.name ≡ name) × (asked.container.attempt ≡ of)
names asked name of e = by_test (bytes_eq asked.container.name name) refl e where
  by_test : (b : Bool) → bytes_eq asked.container.name name ≡ b
      → (if b then Some asked.container.attempt else None) ≡ Some of
      → (asked.container.name ≡ name) × (asked.container.attempt ≡ of)
  by_test true test h = (name_is asked.container.name name test, cc)
  by_test false test h = absurd cc

key_is : (key : Key) (uid name : List ℕ) (of : ℕ) → key.uid ≡ uid → (key.container.name ≡ name)
    × (key.container.attempt ≡ of) → key ≡ key_named uid name of
key_is key uid name of u n = rw (← u, ← n.0, ← n.1) refl

status_is : (asked key : Key) (a : Answer) (code : ℕ) → asked ≡ key → status_tells a ≡ update.Exited code
    → TellsExit (call.ContainerStatus asked) a key code
status_is asked key (answer.Status status) code same e = (same, state_is status.state code e)
status_is asked key answer.Done code same e = absurd cc
status_is asked key (answer.Refused refusal) code same e = absurd cc
status_is asked key (answer.Container id) code same e = absurd cc
status_is asked key (answer.List items) code same e = absurd cc
status_is asked key (answer.Statuses items) code same e = absurd cc

-- the listed cell that decides is of the attempt
cell_is : (name : List ℕ) (of : ℕ) (listed : ListedStatus) → is_cell_of name of listed ≡ true
    → listed.container ≡ metadata name of
cell_is name of listed e =
    let attempt : listed.container.attempt ≡ of = eqb-true listed.container.attempt of
    (and_left (listed.container.attempt == of) (bytes_eq listed.container.name name) e) in
    let same : listed.container.name ≡ name =
    name_is listed.container.name name (and_right (listed.container.attempt == of)
    (bytes_eq listed.container.name name) e) in
    rw (← same, ← attempt) refl

found_in : (name : List ℕ) (of code : ℕ) (items : List ListedStatus)
    → cell_tells (find (is_cell_of name of) items) ≡ update.Exited code
    → Any (IsExitOf (metadata name of) code) items
found_in name of code [] e = absurd cc
found_in name of code (l ∷ ls) e = by_test (is_cell_of name of l) refl e (found_in name of code ls) where
  by_test : (b : Bool) → is_cell_of name of l ≡ b
      → cell_tells (cond b (Some l) (find (is_cell_of name of) ls)) ≡ update.Exited code
      → (cell_tells (find (is_cell_of name of) ls) ≡ update.Exited code
      → Any (IsExitOf (metadata name of) code) ls) → Any (IsExitOf (metadata name of) code) (l ∷ ls)
  by_test true test h behind = (
    0,
    l,
    omega arith,
    refl,
    (cell_is name of l test, state_is l.status.state code h),
  )
  by_test false test h behind =
      let found : Any (IsExitOf (metadata name of) code) ls = behind h in
      (suc found.0, found.1, omega (arith, found.2), found.3, found.4)

statuses_are : (u uid name : List ℕ) (of : ℕ) (a : Answer) (code : ℕ) → u ≡ uid → statuses_tell_of name of
    a ≡ update.Exited code
    → TellsExit (call.ContainerStatuses u) a (key_named uid name of) code
statuses_are u uid name of (answer.Statuses items) code same e = (same, found_in name of code items e)
statuses_are u uid name of answer.Done code same e = absurd cc
statuses_are u uid name of (answer.Refused refusal) code same e = absurd cc
statuses_are u uid name of (answer.Container id) code same e = absurd cc
statuses_are u uid name of (answer.Status status) code same e = absurd cc
statuses_are u uid name of (answer.List items) code same e = absurd cc

-- an answer to the call reports the exit of the attempt that the claim works on
answer_is : (c : Call) (a : Answer) (uid name : List ℕ) (s : Stage) (of code : ℕ) → uid_of c ≡ uid
    → worked_in c name s ≡ Some of
    → answer_tells_of name of c a ≡ update.Exited code → TellsExit c a (key_named uid name of) code
answer_is (call.RunPodSandbox u) a uid name s of code same works e = absurd cc
answer_is (call.StopPodSandbox u grace) a uid name s of code same works e = absurd cc
answer_is (call.RemovePodSandbox u) a uid name s of code same works e = absurd cc
answer_is (call.CreateContainer its image profile) a uid name s of code same works e =
    absurd (made_silent a code e)
answer_is (call.StartContainer its) a uid name s of code same works e =
    let never : update.Started ≡ update.Exited code = done_silent update.Started a code e in absurd cc
answer_is (call.StopContainer its grace) a uid name s of code same works e =
    let never : update.Nothing ≡ update.Exited code = done_silent update.Nothing a code e in absurd cc
answer_is (call.RemoveContainer its) a uid name s of code same works e =
    let never : update.Cleared ≡ update.Exited code = done_silent update.Cleared a code e in absurd cc
answer_is (call.ContainerStatus asked) a uid name s of code same works e =
    status_is asked (key_named uid name of) a code (key_is asked uid name of same (names asked name of works))
    e
answer_is (call.ListContainers u) a uid name s of code same works e = absurd cc
answer_is (call.ContainerStatuses u) a uid name s of code same works e = statuses_are u uid name of
    a code same e

-- the claim's reply reported the exit of the attempt
pub record IsTold (request : Request) (how : Outcome) (key : Key) (code : ℕ) : Type 0 where
  pub reply : Reply
  pub is : how ≡ outcome.Replied reply
  pub number : reply.id ≡ request.id
  pub tells : TellsExit request.call reply.answer key code

by_answer : (request : Request) (how : Outcome) (said : Option Answer) → heard request how ≡ said
    → (uid name : List ℕ) (s : Stage) (of code : ℕ)
    → uid_of request.call ≡ uid → worked_in request.call name s ≡ Some of → hearing_of name of
    request.call said ≡ update.Exited code → IsTold request how (key_named uid name of) code
by_answer request how None is uid name s of code same works e = absurd cc
by_answer request (outcome.Replied reply) (Some said) is uid name s of code same works e =
    by_number (reply.id == request.id) refl is where
      by_number : (b : Bool) → (reply.id == request.id) ≡ b → (if b then Some reply.answer else None)
          ≡ Some said
          → IsTold request (outcome.Replied reply) (key_named uid name of) code
      by_number true test h = record {
        reply = reply;
        is = refl;
        number = eqb-true reply.id request.id test;
        tells =
            let answer : said ≡ reply.answer = cc in
            answer_is request.call reply.answer uid name s of
            code same works (ap (answer_tells_of name of request.call) (sym answer) ∙ e);
      }
      by_number false test h = absurd cc
by_answer request outcome.Lost (Some said) is uid name s of code same works e = absurd cc
by_answer request outcome.Abandoned (Some said) is uid name s of code same works e = absurd cc

pub told_is : (request : Request) (how : Outcome) (uid name : List ℕ) (s : Stage) (of code : ℕ)
    → uid_of request.call ≡ uid → worked_in request.call name s ≡ Some of
    → told_of name of request how ≡ update.Exited code → IsTold request how (key_named uid name of) code
told_is request how uid name s of code same works e =
    by_answer request how (heard request how) refl uid name s of code same works e

-- what was reported before still is
pub told_more : (uid : List ℕ) (c : Claimed) (cs : List Claimed) (name : List ℕ) (k : ℕ) (run : Run)
    → RunReported uid cs name k run → RunReported uid (c ∷ cs) name k run
told_more uid c cs name k run t = (suc t.0, t.1, omega (arith, t.2), t.3, t.4)

-- a track with the same runs, and without a newly ended attempt
unchanged : (uid : List ℕ) (c : Claimed) (cs : List Claimed) (name : List ℕ) (old new : Track)
    → new.runs ≡ old.runs
    → ((k : ℕ) → HasEnded k new.stage → HasEnded k old.stage) → RunsReported uid cs name old
    → RunsReported uid (c ∷ cs) name new
unchanged uid c cs name old new runs same was = record {
  ended = λ k h.
      let l : LastRun uid cs name old k = was.ended k (same k h) in
      record { run = l.run; last = ap last_of runs ∙ l.last; told = told_more uid c cs name k l.run l.told };
  runs = rw runs (All-weaker (λ (run : Run). (k : ℕ) × RunReported uid cs name k run) (λ (run : Run). (k : ℕ)
      × RunReported uid (c ∷ cs) name k run)
      (λ run t. (t.0, told_more uid c cs name t.0 run t.1)) old.runs was.runs);
}

started_same : (now of : ℕ) (s : Stage) (k : ℕ) → HasEnded k (started_at now of s) → HasEnded k s
started_same now of stage.Absent k h = h
started_same now of (stage.Made attempt) k h = by_test (attempt == of) h where
  by_test : (b : Bool) → HasEnded k (if b then stage.Running attempt now None else stage.Made attempt) → ⊥
  by_test true e = e
  by_test false e = e
started_same now of (stage.Running attempt started polled) k h = h
started_same now of (stage.Exited attempt) k h = h
started_same now of (stage.Removed attempt) k h = h

seen_same : (now of : ℕ) (s : Stage) (k : ℕ) → HasEnded k (seen_at now of s) → HasEnded k s
seen_same now of stage.Absent k h = h
seen_same now of (stage.Made attempt) k h = h
seen_same now of (stage.Running attempt started polled) k h = by_test (attempt == of) h where
  by_test : (b : Bool) → HasEnded k (if b then stage.Running attempt started (Some now)
      else stage.Running attempt started polled) → ⊥
  by_test true e = e
  by_test false e = e
seen_same now of (stage.Exited attempt) k h = h
seen_same now of (stage.Removed attempt) k h = h

cleared_same : (of : ℕ) (s : Stage) (k : ℕ) → HasEnded k (cleared_at of s) → HasEnded k s
cleared_same of stage.Absent k h = h
cleared_same of (stage.Made attempt) k h = h
cleared_same of (stage.Running attempt started polled) k h = h
cleared_same of (stage.Exited attempt) k h = by_test (attempt == of) h where
  by_test : (b : Bool) → HasEnded k (if b then stage.Removed attempt else stage.Exited attempt)
      → HasEnded k (stage.Exited attempt)
  by_test true e = e
  by_test false e = e
cleared_same of (stage.Removed attempt) k h = h

at_end : (runs : List Run) (run : Run) → slice_get (runs ++ run ∷ []) (length runs) ≡ Some run
at_end [] run = refl
at_end (r ∷ runs) run = at_end runs run

last_pushed : (runs : List Run) (run : Run) → last_of (runs ++ run ∷ []) ≡ Some run
last_pushed runs run =
    let end : length (runs ++ run ∷ []) - 1 ≡ length runs = omega (arith, length-append runs (run ∷ [])) in
    ap (slice_get (runs ++ run ∷ [])) end ∙ at_end runs run

-- an exit was reported
exited : (uid : List ℕ) (c : Claimed) (cs : List Claimed) (name : List ℕ) (of : ℕ) (old : Track)
    (attempt started code : ℕ) (polled : Option ℕ)
    → TellsRun (key_named uid name of) (record { started = started; code = code; recorded = c.moment }) c
    → (b : Bool) → (attempt == of) ≡ b → old.stage ≡ stage.Running attempt started polled
    → RunsReported uid cs name old
    → RunsReported uid (c ∷ cs) name (record {
      init = old.init;
      stage = if b then stage.Exited attempt else stage.Running attempt started polled;
      runs = with_run (if b then Some (record { started = started; code = code; recorded = c.moment })
          else None) old.runs;
      worked = c.request.id;
    })
exited uid c cs name of old attempt started code polled tells true test at was =
    let run : Run = record { started = started; code = code; recorded = c.moment } in
    let same : of ≡ attempt = sym (eqb-true attempt of test) in
    let here : RunReported uid (c ∷ cs) name attempt run = rw (← same) (0, c, omega arith, refl, tells) in
    record {
      ended = λ k h. record {
        run = run;
        last = last_pushed old.runs run;
        told = rw (← h) here;
      };
      runs = All-push (λ (run : Run). (k : ℕ) × RunReported uid (c ∷ cs) name k run) old.runs run
          (All-weaker (λ (run : Run). (k : ℕ) × RunReported uid cs name k run) (λ (run : Run). (k : ℕ)
          × RunReported uid (c ∷ cs) name k run)
          (λ run t. (t.0, told_more uid c cs name t.0 run t.1)) old.runs was.runs)
          (attempt, here);
    }
exited uid c cs name of old attempt started code polled tells false test at was =
    unchanged uid c cs name old (record {
      init = old.init;
      stage = stage.Running attempt started polled;
      runs = old.runs;
      worked = c.request.id;
    }) refl (λ k h. absurd h) was

by_stage : (uid : List ℕ) (c : Claimed) (cs : List Claimed) (name : List ℕ) (of code : ℕ) (old : Track)
    → ((started : ℕ) → TellsRun (key_named uid name of)
    (record { started = started; code = code; recorded = c.moment }) c)
    → (s : Stage) → old.stage ≡ s → RunsReported uid cs name old
    → RunsReported uid (c ∷ cs) name (record {
      init = old.init;
      stage = exited_at of s;
      runs = with_run (exit_at c.moment of code s) old.runs;
      worked = c.request.id;
    })
by_stage uid c cs name of code old tells (stage.Running attempt started polled) at was =
    exited uid c cs name of old attempt started code polled (tells started) (attempt == of) refl at was
by_stage uid c cs name of code old tells stage.Absent at was =
    unchanged uid c cs name old _ refl (λ k h. absurd h) was
by_stage uid c cs name of code old tells (stage.Made attempt) at was =
    unchanged uid c cs name old _ refl (λ k h. absurd h) was
by_stage uid c cs name of code old tells (stage.Exited attempt) at was =
    unchanged uid c cs name old _ refl (λ k h. rw at h) was
by_stage uid c cs name of code old tells (stage.Removed attempt) at was =
    unchanged uid c cs name old _ refl (λ k h. rw at h) was

-- the track after a claim that worked on this attempt, with this update on it
abbrev behind : Claimed → ℕ → StatusUpdate → Track → Track
behind c of n old = record {
  init = old.init;
  stage = stage_at c.moment of n old.stage;
  runs = with_run (run_at c.moment of n old.stage) old.runs;
  worked = c.request.id;
}

by_update : (uid : List ℕ) (c : Claimed) (cs : List Claimed) (name : List ℕ) (of : ℕ)
    (old : Track) (n : StatusUpdate)
    → ((code : ℕ) → n ≡ update.Exited code → (started : ℕ)
    → TellsRun (key_named uid name of) (record { started = started; code = code; recorded = c.moment }) c)
    → RunsReported uid cs name old → RunsReported uid (c ∷ cs) name (behind c of n old)
by_update uid c cs name of old (update.Exited code) tells was = by_stage uid c cs name of
    code old (tells code refl) old.stage refl was
by_update uid c cs name of old update.Made tells was =
    unchanged uid c cs name old _ refl (λ k h. absurd h) was
by_update uid c cs name of old update.Started tells was =
    unchanged uid c cs name old _ refl (started_same c.moment of old.stage) was
by_update uid c cs name of old update.NotExited tells was =
    unchanged uid c cs name old _ refl (seen_same c.moment of old.stage) was
by_update uid c cs name of old update.Cleared tells was =
    unchanged uid c cs name old _ refl (cleared_same of old.stage) was
by_update uid c cs name of old update.Lost tells was = unchanged uid c cs name old _ refl (λ k h. h) was
by_update uid c cs name of old update.Refused tells was = unchanged uid c cs name old _ refl (λ k h. h) was
by_update uid c cs name of old update.SandboxReady tells was =
    unchanged uid c cs name old _ refl (λ k h. h) was
by_update uid c cs name of old update.SandboxStopped tells was =
    unchanged uid c cs name old _ refl (λ k h. h) was
by_update uid c cs name of old update.SandboxRemoved tells was =
    unchanged uid c cs name old _ refl (λ k h. h) was
by_update uid c cs name of old update.Nothing tells was = unchanged uid c cs name old _ refl (λ k h. h) was

-- a claim of the pod
pub told_behind : (uid : List ℕ) (c : Claimed) (cs : List Claimed) (name : List ℕ) (old : Track)
    → uid_of c.request.call ≡ uid → RunsReported uid cs name old
    → RunsReported uid (c ∷ cs) name (track_after c.moment c.request c.outcome name old)
told_behind uid c cs name old same was = by_attempt (worked_in c.request.call name old.stage) refl where
  by_attempt : (works : Option ℕ) → worked_in c.request.call name old.stage ≡ works
      → RunsReported uid (c ∷ cs) name (record {
        init = old.init;
        stage = stage_by c.moment c.request c.outcome name old.stage works;
        runs = with_run (run_by c.moment c.request c.outcome name old.stage works) old.runs;
        worked = number_by c.request old.worked works;
      })
  by_attempt None is = unchanged uid c cs name old _ refl (λ k h. h) was
  by_attempt (Some of) is =
      by_update uid c cs name of old (told_of name of c.request c.outcome)
      (λ code e started.
      let found : IsTold c.request c.outcome (key_named uid name of) code =
      told_is c.request c.outcome uid name old.stage of code same is e in
      record {
        reply = found.reply;
        is = found.is;
        number = found.number;
        tells = found.tells;
        recorded =
            refl;
      })
      was
