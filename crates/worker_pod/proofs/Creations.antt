-- When an attempt at a container is made, and what is sent.
use Rattle.std.proofs.Common.{◌≡◌, ℕ, ◌+◌, ◌≤◌, nat_le, nat_lt, Bool, true, false, ◌&&◌, if◌then◌else◌, List}
use Rattle.std.proofs.Common.{Option, Some, None, slice_get, inl, inr, refl, sym, ◌∙◌, ap, arith}
use Rattle.std.specs.Option.{option_map}
use Rattle.lifecycle.specs.BackOff.{Run, last_of, ready_at}
use Rattle.lifecycle.specs.Restart.{may_restart}
use Rattle.lifecycle.specs.declared.policy.RestartPolicy.{RestartPolicy}
use Rattle.lifecycle.specs.declared.track.Stage.{Stage}
use Rattle.lifecycle.specs.declared.track.Stage.TheVariants as stage
use Rattle.lifecycle.specs.declared.track.Track.{Track}
use Rattle.manifest.specs.declared.containers.Container.{Container}
use Rattle.manifest.specs.declared.pods.Pod.{Pod}
use Rattle.manifest.specs.declared.profiles.SeccompProfile.{SeccompProfile}
use Rattle.profile_pick.specs.Choice.{choice_of}
use Rattle.cri_msgs.specs.declared.calls.Call.TheVariants.{CreateContainer}
use Rattle.cri_msgs.specs.declared.keys.Key.{Key}
use Rattle.cri_msgs.specs.declared.version.Version.{Version}
use Rattle.cri_msgs.specs.declared.version.Version.TheVariants.{V1, V2}
use Rattle.worker_pod.specs.declared.action.PodAction.{PodAction}
use Rattle.worker_pod.specs.declared.action.PodAction.TheVariants as action
use Rattle.worker_pod.specs.declared.settings.Settings.{Settings}
use Rattle.worker_pod.specs.declared.settings.TheConstants.{LAST_ATTEMPT}
use Rattle.worker_pod.specs.declared.container_actions.Pick.{Pick}
use Rattle.worker_pod.specs.declared.container_actions.ContainerAction.{ContainerAction}
use Rattle.worker_pod.specs.declared.container_actions.Work.{Work}
use Rattle.worker_pod.specs.declared.container_actions.Work.TheVariants.{Create, Start, Look, Clear}
use Rattle.worker_pod.specs.Laws.{Creation, Follows}
use Rattle.worker_pod.specs.Next.{call_by, call_of, action_of, key_in, look_by, next_by, next_of}
use Rattle.worker_pod.specs.Past.{Kept}
use Rattle.worker_pod.specs.ContainerActions.{again, again_behind, chosen, front_of, is_in_turn, step_in}
use Rattle.worker_pod.specs.ContainerActions.{turn_of}
use Rattle.worker_pod.specs.ContainerActions.{step_of, wanted}
use Rattle.worker_pod.proofs.Inits.{in_front}
use Rattle.worker_pod.proofs.Offers.{IsAmong, and_left, chosen_among}

-- what is sent
record IsSent (pod : Pod) (settings : Settings) (c : Container) (work : Work) (key : Key) (image : List ℕ)
    (profile : SeccompProfile) : Type 0 where
  attempt : ℕ
  is : work ≡ Create attempt
  the_key : key ≡ key_in pod c attempt
  the_image : image ≡ c.image
  the_profile : profile ≡ choice_of pod.profile c settings.seccomp_default

by_work : (pod : Pod) (settings : Settings) (c : Container) (work : Work) (key : Key) (image : List ℕ)
    (profile : SeccompProfile)
    → call_of pod settings c work ≡ CreateContainer key image profile
    → IsSent pod settings c work key image profile
by_work pod settings c (Create attempt) key image profile e =
    record { attempt = attempt; is = refl; the_key = cc; the_image = cc; the_profile = cc }
by_work pod settings c (Start attempt) key image profile e = absurd cc
by_work pod settings c (Look attempt) key image profile e = absurd (never settings.version e) where
  never : (version : Version) → look_by version (key_in pod c attempt) ≡ CreateContainer key image profile → ⊥
  never V1 h = cc
  never V2 h = cc
by_work pod settings c (Clear attempt) key image profile e = absurd cc

-- why it is made
record IsMade (policy : RestartPolicy) (now : ℕ) (t : Track) (attempt : ℕ) : Type 0 where
  first : attempt ≡ 0 → t.stage ≡ stage.Absent
  follows : (k : ℕ) → attempt ≡ k + 1 → Follows policy t k now

-- why there may be another attempt
record IsAgain (policy : RestartPolicy) (t : Track) (from : ℕ) : Type 0 where
  run : Run
  last : last_of t.runs ≡ Some run
  may : may_restart policy t.init run.code ≡ true
  ready : ready_at t.runs ≡ from

again_is : (policy : RestartPolicy) (t : Track) (k from : ℕ) (last : Option Run) → last_of t.runs ≡ last
    → again_behind policy t k last ≡ Some from
    → IsAgain policy t from
again_is policy t k from None is e = absurd cc
again_is policy t k from (Some run) is e =
    by_test (may_restart policy t.init run.code && nat_lt k LAST_ATTEMPT) refl e where
      by_test : (b : Bool) → (may_restart policy t.init run.code && nat_lt k LAST_ATTEMPT) ≡ b
          → (if b then Some (ready_at t.runs) else None) ≡ Some from → IsAgain policy t from
      by_test true test h =
          record {
            run = run;
            last = is;
            may = and_left (may_restart policy t.init run.code)
                (nat_lt k LAST_ATTEMPT) test;
            ready = cc;
          }
      by_test false test h = absurd cc

wanted_is : (work : Work) (from : Option ℕ) (step : ContainerAction)
    → option_map (wanted work) from ≡ Some step
    → (from ≡ Some step.from) × (step.work ≡ work)
wanted_is work None step e = absurd cc
wanted_is work (Some from) step e =
    let same : wanted work from ≡ step = cc in
    (ap (λ (w : ContainerAction). Some w.from) same, sym (ap (λ (w : ContainerAction). w.work) same))

create_is : (a b : ℕ) → Create a ≡ Create b → a ≡ b
create_is a b e = cc

by_stage : (policy : RestartPolicy) (poll now : ℕ) (t : Track) (s : Stage) → t.stage ≡ s
    → (step : ContainerAction)
    → step_in policy poll t s ≡ Some step → step.from ≤ now
    → (attempt : ℕ) → step.work ≡ Create attempt → IsMade policy now t attempt
by_stage policy poll now t stage.Absent is step e due attempt work =
    let same : wanted (Create 0) 0 ≡ step = cc in
    let zero_is : 0 ≡ attempt = create_is 0 attempt (ap (λ (w : ContainerAction). w.work) same ∙ work) in
    record { first = λ _. is; follows = λ k next. absurd (omega (arith, zero_is, next)) }
by_stage policy poll now t (stage.Made of) is step e due attempt work =
    let same : wanted (Start of) 0 ≡ step = cc in
    let differ : Start of ≡ Create attempt = ap (λ (w : ContainerAction). w.work) same ∙ work in absurd cc
by_stage policy poll now t (stage.Running of started polled) is step e due attempt work =
    let same : Look of ≡ step.work = ap (λ (w : Option ContainerAction). work_or w) e in
    let differ : Look of ≡ Create attempt = same ∙ work in absurd cc
  where
    work_or : Option ContainerAction → Work
    work_or None = Look of
    work_or (Some w) = w.work
by_stage policy poll now t (stage.Exited of) is step e due attempt work =
    let found : (again policy t of ≡ Some step.from) × (step.work ≡ Clear of) =
    wanted_is (Clear of) (again policy t of) step e in
    let differ : Clear of ≡ Create attempt = sym found.1 ∙ work in absurd cc
by_stage policy poll now t (stage.Removed of) is step e due attempt work =
    let found : (again policy t of ≡ Some step.from) × (step.work ≡ Create (of + 1)) =
    wanted_is (Create (of + 1)) (again policy t of) step e in
    let next_is : of + 1 ≡ attempt = create_is (of + 1) attempt (sym found.1 ∙ work) in
    let why : IsAgain policy t step.from = again_is policy t of step.from (last_of t.runs) refl found.0 in
    record {
      first = λ none. absurd (omega (arith, next_is, none));
      follows = λ k next.
          let same : of ≡ k = omega (arith, next_is, next) in
          record {
            stage = is ∙ ap (λ (n : ℕ). stage.Removed n) same;
            run = why.run;
            last = why.last;
            may = why.may;
            ready = omega (arith, due, why.ready);
          };
    }

turn_is : (policy : RestartPolicy) (poll : ℕ) (front : Option ℕ) (at : ℕ) (t : Track) (step : ContainerAction)
    → turn_of policy poll front at t ≡ Some step
    → (is_in_turn front at t ≡ true) × (step_of policy poll t ≡ Some step)
turn_is policy poll front at t step e = by_test (is_in_turn front at t) refl e where
  by_test : (b : Bool) → is_in_turn front at t ≡ b → (if b then step_of policy poll t else None) ≡ Some step
      → (is_in_turn front at t ≡ true) × (step_of policy poll t ≡ Some step)
  by_test true test h = (test, h)
  by_test false test h = absurd cc

made_of : (kept : Kept) (now : ℕ) (pick : Pick)
    (among : IsAmong kept.pod.policy kept.settings.poll now (front_of kept.pod.policy kept.tracks) 0
    kept.tracks pick)
    → (container : Container) → slice_get kept.pod.containers.all pick.at ≡ Some container
    → (key : Key) (image : List ℕ) (profile : SeccompProfile)
    → IsSent kept.pod kept.settings container pick.work key image profile
    → Creation kept now key image profile
made_of kept now pick among container named key image profile sent =
    let policy : RestartPolicy = kept.pod.policy in
    let front : Option ℕ = front_of policy kept.tracks in
    let there : slice_get kept.tracks pick.at ≡ Some among.track =
    ap (slice_get kept.tracks) (omega (arith, among.at_is)) ∙ among.here in
    let turn : (is_in_turn front pick.at among.track ≡ true)
    × (step_of policy kept.settings.poll among.track ≡ Some among.step) =
    turn_is policy kept.settings.poll front pick.at among.track among.step among.turn in
    let made : IsMade policy now among.track sent.attempt =
    by_stage policy kept.settings.poll now among.track among.track.stage refl among.step turn.1 among.due
    sent.attempt (sym among.work ∙ sent.is) in
    let attempt_is : key.container.attempt ≡ sent.attempt =
    ap (λ (k : Key). k.container.attempt) sent.the_key in
    record {
      place = pick.at;
      track = among.track;
      container = container;
      here = there;
      named = named;
      of_container = sent.the_key ∙ ap (key_in kept.pod container) (sym attempt_is);
      its_image = sent.the_image;
      its_profile = sent.the_profile;
      in_turn = turn.0;
      in_order = in_front policy kept.tracks front refl pick.at among.track there turn.0;
      first = λ none. made.first (sym attempt_is ∙ none);
      follows = λ k next. made.follows k (sym attempt_is ∙ next);
    }

by_container : (kept : Kept) (now : ℕ) (pick : Pick)
    (among : IsAmong kept.pod.policy kept.settings.poll now (front_of kept.pod.policy kept.tracks) 0
    kept.tracks pick)
    → (c : Option Container) → slice_get kept.pod.containers.all pick.at ≡ c
    → (key : Key) (image : List ℕ) (profile : SeccompProfile)
    → option_map (λ c. call_of kept.pod kept.settings c pick.work) c
    ≡ Some (CreateContainer key image profile) → Creation kept now key image profile
by_container kept now pick among None named key image profile e = absurd cc
by_container kept now pick among (Some c) named key image profile e =
    let same : call_of kept.pod kept.settings c pick.work ≡ CreateContainer key image profile = cc in
    made_of kept now pick among c named key image profile
    (by_work kept.pod kept.settings c pick.work key image profile same)

by_pick : (kept : Kept) (now : ℕ) (o : Option Pick)
    → chosen kept.pod.policy kept.settings.poll now kept.tracks ≡ o
    → (key : Key) (image : List ℕ) (profile : SeccompProfile)
    → call_by kept.pod kept.settings o ≡ Some (CreateContainer key image profile)
    → Creation kept now key image profile
by_pick kept now None is key image profile e = absurd cc
by_pick kept now (Some pick) is key image profile e =
    elim (chosen_among kept.pod.policy kept.settings.poll now (front_of kept.pod.policy kept.tracks) 0 None
    kept.tracks pick is) [
      | inl none ↦ absurd cc
      | inr among ↦ by_container kept now pick among (slice_get kept.pod.containers.all pick.at) refl key
          image profile e
    ]

by_action : (kept : Kept) (now : ℕ) (key : Key) (image : List ℕ) (profile : SeccompProfile) (d : PodAction)
    → next_by kept now d ≡ Some (CreateContainer key image profile) → Creation kept now key image profile
by_action kept now key image profile action.Nothing e = absurd cc
by_action kept now key image profile action.RunSandbox e = absurd cc
by_action kept now key image profile action.StopSandbox e = absurd cc
by_action kept now key image profile action.RemoveSandbox e = absurd cc
by_action kept now key image profile action.Containers e =
    by_pick kept now (chosen kept.pod.policy kept.settings.poll now kept.tracks) refl key image profile e

pub creation : (kept : Kept) (now : ℕ) (key : Key) (image : List ℕ) (profile : SeccompProfile)
    → next_of kept now ≡ Some (CreateContainer key image profile) → Creation kept now key image profile
creation kept now key image profile e = by_rest (nat_le kept.rest now) e where
  by_rest : (b : Bool) → (if b then next_by kept now (action_of kept) else None)
      ≡ Some (CreateContainer key image profile) → Creation kept now key image profile
  by_rest true h = by_action kept now key image profile (action_of kept) h
  by_rest false h = absurd cc
