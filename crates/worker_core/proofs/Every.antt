-- The laws of every run of a node.
use Rattle.std.proofs.Common.{◌≡◌, inl, inr, ℕ, ◌+◌, ◌-◌, ◌<◌, nat_le, nat_lt, Bool, true, false}
use Rattle.std.proofs.Common.{if◌then◌else◌, List, [], ◌∷◌, length, Option, Some, None, slice_get, refl, sym}
use Rattle.std.proofs.Common.{◌∙◌, ap, subst, arith}
use Rattle.std.proofs.lemmas.Bool.{ltb-false}
use Rattle.std.proofs.lemmas.Option.{get_or_from_slice_get, same_Some, slice_get_cases, slice_get_within}
use Rattle.std.specs.Option.{is_some, option_map}
use Rattle.lifecycle.specs.BackOff.{Run, last_of}
use Rattle.lifecycle.specs.Restart.{may_restart}
use Rattle.lifecycle.specs.declared.track.Stage.{Stage}
use Rattle.lifecycle.specs.declared.track.Track.{Track}
use Rattle.manifest.specs.declared.containers.Container.{Container}
use Rattle.manifest.specs.declared.pods.Pod.{Pod}
use Rattle.manifest.specs.declared.profiles.SeccompProfile.{SeccompProfile}
use Rattle.profile_pick.specs.Choice.{choice_of}
use Rattle.cri_msgs.specs.declared.calls.Call.{Call}
use Rattle.cri_msgs.specs.declared.calls.Call.TheVariants.{CreateContainer}
use Rattle.cri_msgs.specs.declared.calls.Request.{Request}
use Rattle.cri_msgs.specs.declared.keys.Key.{Key}
use Rattle.worker_pod.specs.declared.sandbox.Sandbox.{Sandbox}
use Rattle.worker_pod.specs.declared.sandbox.Sandbox.TheVariants as sandbox
use Rattle.worker_pod.specs.declared.settings.Settings.{Settings}
use Rattle.cri_msgs.specs.Calls.{uid_of}
use Rattle.worker_pod.specs.Laws.{AreNumbered, AreOf, Creation, EndedWell, Follows, HasEnded, IsNumberedIn}
use Rattle.worker_pod.specs.Laws.{LastRun, RunReported, RunsReported, key_named}
use Rattle.worker_pod.specs.Next.{action_in, action_of, due_of, has_come, next_by, next_of, numbered, phase_in}
use Rattle.worker_pod.specs.Next.{unmaking}
use Rattle.worker_pod.specs.Past.{Claimed, Kept, Past, held_of, read_off}
use Rattle.worker_core.specs.declared.answers.Answer.{Answer}
use Rattle.worker_core.specs.declared.answers.Answer.TheVariants.{Nothing, Refused}
use Rattle.worker_core.specs.declared.answers.NodeRefusal.TheVariants.{Memory}
use Rattle.worker_core.specs.declared.claims.Grant.{Grant}
use Rattle.worker_core.specs.declared.events.AgentEvent.{AgentEvent}
use Rattle.worker_core.specs.declared.events.AgentEvent.TheVariants.{Claim}
use Rattle.worker_core.specs.declared.limits.TheConstants.{LAST_NUMBER}
use Rattle.worker_core.specs.declared.slots.Held.{Held}
use Rattle.worker_core.specs.declared.slots.Slot.{Slot}
use Rattle.worker_core.specs.declared.turns.Turn.{Turn}
use Rattle.worker_core.specs.Kept.{claim_answer, grant_answer, grant_of, grant_of_slot, grant_of_turn}
use Rattle.worker_core.specs.Kept.{grant_with}
use Rattle.worker_core.specs.Laws.{CreationLaw, EndedWithZero, GivenLaw, Gives, Happened, Holds, IsNodeRun}
use Rattle.worker_core.specs.Laws.{NodeLaws, NodeLink, NodeLinkLaws, is_init, node_now, state_of}
use Rattle.worker_core.specs.Nodes.{IsDueAt, NodeState, NodeStep, OnNode, kept_of, slot_of, slots_of}
use Rattle.worker_core.specs.Slots.{holder_of, is_free}
use Rattle.worker_core.specs.Turns.{longest}
use Rattle.worker_core.proofs.Askers.{asked}
use Rattle.worker_core.proofs.Grants.{NodeGrant, free_if, node_grant, open_if, pod_is, settings_is}
use Rattle.worker_core.proofs.Idle.{idle_holds_none}
use Rattle.worker_core.proofs.Leaves.{remains}
use Rattle.worker_core.proofs.Lists.{got, there}
use Rattle.worker_core.proofs.Longest.{Found, IsOpen, is_open, longest_found, longest_open}
use Rattle.worker_core.proofs.Moves.{moves}
use Rattle.worker_core.proofs.Runs.{GivesIs, Good, admits_is, gives_is, good_run}

some_same : {A : Type 0} (x y : A) → Some x ≡ Some y → x ≡ y
some_same x y e = cc

is_some_if : {A : Type 0} (o : Option A) → (o ≡ None → ⊥) → is_some o ≡ true
is_some_if None there_is = absurd (there_is refl)
is_some_if (Some x) there_is = refl

some_of : {A : Type 0} (o : Option A) → is_some o ≡ true → (x : A) × (o ≡ Some x)
some_of None e = absurd cc
some_of (Some x) e = (x, refl)

here_at : (slots : List Slot) (a b : ℕ) → a ≡ b → (slot : Slot) → slice_get slots a ≡ Some slot
    → (other : Slot) → other ≡ slot → slice_get slots b ≡ Some other
here_at slots a b e slot here other same = ap (slice_get slots) (sym e) ∙ here ∙ ap Some (sym same)

-- for a deleted pod its sandbox is stopped or removed
unmakes : (kept : Kept) (now : ℕ) (key : Key) (image : List ℕ) (profile : SeccompProfile) (s : Sandbox)
    → next_by kept now (unmaking s) ≡ Some (CreateContainer key image profile) → ⊥
unmakes kept now key image profile sandbox.Absent e = cc
unmakes kept now key image profile sandbox.Ready e = cc
unmakes kept now key image profile sandbox.Stopped e = cc
unmakes kept now key image profile sandbox.Removed e = cc

made_undeleted : (kept : Kept) (now : ℕ) (key : Key) (image : List ℕ) (profile : SeccompProfile)
    → next_of kept now ≡ Some (CreateContainer key image profile) → kept.deleted ≡ false
made_undeleted kept now key image profile e = by_rest (nat_le kept.rest now) e where
  by_deleted : (d : Bool) → kept.deleted ≡ d
      → next_by kept now (if d then unmaking kept.sandbox else action_in (phase_in kept) kept.sandbox)
      ≡ Some (CreateContainer key image profile)
      → kept.deleted ≡ false
  by_deleted true is e = absurd (unmakes kept now key image profile kept.sandbox e)
  by_deleted false is e = is

  by_rest : (b : Bool) → (if b then next_by kept now (action_of kept) else None)
      ≡ Some (CreateContainer key image profile) → kept.deleted ≡ false
  by_rest true e = by_deleted kept.deleted refl e
  by_rest false e = absurd cc

module _
    (calls : (kept : Kept) (now : ℕ) (call : Call) → next_of kept now ≡ Some call
    → uid_of call ≡ kept.pod.uid)
    (creations : (kept : Kept) (now : ℕ) (key : Key) (image : List ℕ) (profile : SeccompProfile)
    → next_of kept now ≡ Some (CreateContainer key image profile) → Creation kept now key image profile)
    (dues : (settings : Settings) (past : Past) (now : ℕ) → is_some (next_of (held_of settings past) now)
    ≡ has_come (due_of (held_of settings past)) now)
    (tolds : (settings : Settings) (pod : Pod) (claims : List Claimed) → AreOf pod.uid claims
    → (at : ℕ) (track : Track) (container : Container)
    → slice_get (read_off pod settings claims).tracks at ≡ Some track
    → slice_get pod.containers.all at ≡ Some container → RunsReported pod.uid claims container.name track)
    (numbers : (settings : Settings) (past : Past) (now : ℕ) (call : Call) → AreOf past.pod.uid past.claims
    → AreNumbered settings past.pod past.claims
    → next_of (held_of settings past) now ≡ Some call
    → IsNumberedIn past.pod.containers.all (read_off past.pod settings past.claims).tracks call)
    (numbereds : (settings : Settings) (pod : Pod) (claims : List Claimed) → AreOf pod.uid claims
    → AreNumbered settings pod claims → (at : ℕ) (track : Track) (container : Container)
    → slice_get (read_off pod settings claims).tracks at ≡ Some track
    → slice_get pod.containers.all at ≡ Some container
    → (k : ℕ) (run : Run) → slice_get track.runs k ≡ Some run → RunReported pod.uid claims container.name k run)
    (counts : (settings : Settings) (pod : Pod) (claims : List Claimed)
    → length (read_off pod settings claims).tracks ≡ length pod.containers.all)
    (inits : (settings : Settings) (pod : Pod) (claims : List Claimed) (at : ℕ) (track : Track)
    → slice_get (read_off pod settings claims).tracks at ≡ Some track
    → track.init ≡ nat_lt at pod.containers.inits)
  where
    -- two claims of one place hold the same
    same_held : (node : NodeState) (worker other : ℕ) (uid another : List ℕ) (request its : Request)
        (h : Holds node worker uid request) (k : Holds node other another its) → h.place ≡ k.place
        → (worker ≡ other) × (uid ≡ another) × (request ≡ its)
    same_held node worker other uid another request its h k e =
        let pod_same : h.at.pod ≡ k.at.pod =
        some_same h.at.pod k.at.pod (sym h.at.here ∙ ap (slice_get node.pods) e ∙ k.at.here) in
        let held_same : ◌≡◌ {A = Held} (record { worker = worker; request = request })
        (record { worker = other; request = its }) =
        some_same _ _ (sym h.at.by ∙ ap (λ (p : OnNode). p.held) pod_same ∙ k.at.by) in (
          ap (λ (x : Held). x.worker) held_same,
          sym h.at.of_uid ∙ ap (λ (p : OnNode). p.past.pod.uid) pod_same
              ∙ k.at.of_uid,
          ap (λ (x : Held). x.request) held_same,
        )

    settings_stay : (settings : Settings) (ls : List NodeLink) → IsNodeRun settings ls
        → (node_now settings ls).settings ≡ settings
    settings_stay settings [] run = refl
    settings_stay settings (l ∷ ls) run =
        (moves l.old l.event l.answer l.new run.1).settings ∙ ap (λ (n : NodeState). n.settings) run.0
        ∙ settings_stay settings ls run.2

    pub node_laws : (settings : Settings) (ls : List NodeLink) → IsNodeRun settings ls → NodeLaws settings ls
    node_laws settings ls run =
        let node : NodeState = node_now settings ls in
        let good : Good ls node = good_run calls numbers settings ls run in
        record {
          settings_stay = settings_stay settings ls run;
          one_worker = λ worker other uid request another h k.
              let same : (worker ≡ other) × (uid ≡ uid) × (request ≡ another) =
              same_held node worker other uid uid request another h k
              (good.uids h.place k.place h.at.pod k.at.pod h.at.here k.at.here (h.at.of_uid
              ∙ sym k.at.of_uid)) in
              (same.0, same.2);
          one_pod = λ worker uid another request its h k.
              let same : (worker ≡ worker) × (uid ≡ another) × (request ≡ its) =
              same_held node worker worker uid another request its h k
              (good.workers h.place k.place h.at.pod k.at.pod h.at.here k.at.here _ _ h.at.by k.at.by
              refl) in
              (same.1, same.2);
          given = λ worker uid request h.
              subst (λ (u : List ℕ). Happened (Gives worker u request) ls) h.at.of_uid
              (good.given h.place h.at.pod h.at.here (record { worker = worker; request = request })
              h.at.by);
          held_is_about = λ worker uid request h.
              good.held_of_pod h.place h.at.pod h.at.here (record { worker = worker; request = request })
              h.at.by ∙ h.at.of_uid;
          claims_are_about = good.of_pod;
          admitted = good.admitted;
          ended = λ at p c here. good.ended at p here c;
          tracked = λ at p here. counts node.settings p.past.pod p.past.claims;
          inits = λ at p here place track here'.
              inits node.settings p.past.pod p.past.claims place track here';
          numbered = λ at p here. numbereds node.settings p.past.pod p.past.claims (good.of_pod at p here)
              (good.numbered at p here);
          told = λ at p here. tolds node.settings p.past.pod p.past.claims (good.of_pod at p here);
        }

    given_law : (old : NodeState) (worker : ℕ) (uid : List ℕ) (request : Request) (new : NodeState)
        → GivesIs old worker uid request new → GivenLaw old worker uid request
    given_law old worker uid request new g =
        let n : NodeGrant old g.grant = node_grant old g.grant g.given.grant_of_it in
        record {
          place = g.grant.place;
          pod = n.pod;
          here = n.here;
          of_uid = sym n.uid ∙ g.given.its_uid;
          free = n.free;
          idle = λ another its h. idle_holds_none old worker g.given.idle h.place h.at.pod h.at.here
              (record { worker = worker; request = its }) h.at.by refl;
          due = n.due ∙ ap (λ (r : Request). Some r.call) g.given.its_request;
          number = ap (λ (r : Request). r.id) (sym g.given.its_request) ∙ n.number;
          longest = λ at other here free some. n.longest at other here free
              (sym (dues old.settings other.past old.moment)
              ∙ is_some_if (next_of (state_of old other) old.moment) some);
        }

    -- the pod that is given has a request
    due_open : (old : NodeState) (p : OnNode) → is_open old.moment (slot_of old.settings p) ≡ true
        → is_some (next_of (state_of old p) old.moment) ≡ true
    due_open old p e =
        let free : p.held ≡ None = free_if (slot_of old.settings p) old.moment e in
        dues old.settings p.past old.moment ∙ come (slot_of old.settings p) free e
      where
        come : (slot : Slot) → slot.held ≡ None → is_open old.moment slot ≡ true
            → has_come (due_of slot.state) old.moment ≡ true
        come slot free e = sym (ap (λ (h : Option Held).
            has_come (if is_free h then due_of slot.state else None) old.moment) free) ∙ e

    not_nothing : (old : NodeState) → old.number < LAST_NUMBER → IsDueAt old old.moment
        → grant_of (kept_of old) ≡ None → ⊥
    not_nothing old less due e =
        let slot : Slot = slot_of old.settings due.waiting in
        let come : has_come (due_of (state_of old due.waiting)) old.moment ≡ true =
        sym (dues old.settings due.waiting.past old.moment) ∙ ap is_some due.due in
        let f : Found (longest old.moment (slots_of old)) due.place (state_of old due.waiting).worked =
        longest_found old.moment (slots_of old) due.place slot
        (there (slot_of old.settings) old.pods due.place due.waiting due.here)
        (open_if slot old.moment due.free come) in
        let o : IsOpen old.moment 0 (slots_of old) f.turn =
        longest_open old.moment (slots_of old) f.turn f.is in
        let at_is : o.off ≡ f.turn.place = omega (arith, o.place) in
        let p : (x : OnNode) × (slice_get old.pods o.off ≡ Some x) × (slot_of old.settings x ≡ o.slot) =
        got (slot_of old.settings) old.pods o.off o.slot o.here in
        let next : (call : Call) × (next_of (state_of old p.0) old.moment ≡ Some call) =
        some_of (next_of (state_of old p.0) old.moment)
        (due_open old p.0 (ap (is_open old.moment) p.2 ∙ o.open_is)) in
        let slot_is : slice_get (slots_of old) f.turn.place ≡ Some (slot_of old.settings p.0) =
        here_at (slots_of old) o.off f.turn.place at_is o.slot o.here (slot_of old.settings p.0) p.2 in
        by_number f.turn (slot_of old.settings p.0) next.0 f.is slot_is next.1
        (nat_lt old.number LAST_NUMBER) refl e
      where
        by_number : (turn : Turn) (slot : Slot) (call : Call) → longest old.moment (slots_of old) ≡ Some turn
            → slice_get (slots_of old) turn.place ≡ Some slot → next_of slot.state old.moment ≡ Some call
            → (b : Bool) → nat_lt old.number LAST_NUMBER ≡ b
            → (if b then grant_of_turn (kept_of old) (longest old.moment (slots_of old)) else None) ≡ None → ⊥
        by_number turn slot call is here next true t e =
            let some : grant_of_turn (kept_of old) (longest old.moment (slots_of old))
            ≡ grant_with turn.place slot.state.pod.uid (Some (numbered (old.number + 1) call)) =
            ap (grant_of_turn (kept_of old)) is
            ∙ ap (grant_of_slot (kept_of old) turn.place) here
            ∙ ap (λ (c : Option Call). grant_with turn.place slot.state.pod.uid
            (option_map (numbered (old.number + 1)) c)) next in
            let differ : grant_with turn.place slot.state.pod.uid (Some (numbered (old.number + 1) call))
            ≡ None = sym some ∙ e in
            cc
        by_number turn slot call is here next false t e =
            omega (arith, ltb-false old.number LAST_NUMBER t, less)

    nothing_law : (old : NodeState) (answer : Answer) (new : NodeState) (worker : ℕ)
        → NodeStep old (Claim worker) answer new → answer ≡ Nothing → old.number < LAST_NUMBER
        → ¬ IsDueAt old old.moment
    nothing_law old answer new worker (inl taken) said less = λ due.
        by_holder (holder_of worker (slots_of old)) due (sym taken.answer_is ∙ said) where
          by_grant : (g : Option Grant) → grant_of (kept_of old) ≡ g → IsDueAt old old.moment
              → grant_answer g ≡ Nothing → ⊥
          by_grant None is due e = not_nothing old less due is
          by_grant (Some grant) is due e = cc

          by_holder : (h : Option ℕ) → IsDueAt old old.moment → claim_answer (kept_of old) h ≡ Nothing → ⊥
          by_holder None due e = by_grant (grant_of (kept_of old)) refl due e
          by_holder (Some place) due e = cc
    nothing_law old answer new worker (inr lacks) said less = λ due.
        let differ : Nothing ≡ Refused Memory = sym said ∙ lacks.answer_is in cc

    -- the last of a container's runs was reported
    told_last : (uid : List ℕ) (claims : List Claimed) (name : List ℕ) (track : Track)
        → RunsReported uid claims name track → (run : Run) → last_of track.runs ≡ Some run
        → (k : ℕ) × RunReported uid claims name k run
    told_last uid claims name track told run last =
        subst (λ (r : Run). (k : ℕ) × RunReported uid claims name k r)
        (get_or_from_slice_get track.runs (length track.runs - 1) run run last)
        (told.runs (length track.runs - 1) run (slice_get_within track.runs (length track.runs - 1) run last))

    -- an init container before a creation
    init_ended : (old : NodeState) (ls : List NodeLink) → Good ls old → (from : ℕ) (p : OnNode)
        → slice_get old.pods from ≡ Some p
        → (key : Key) (image : List ℕ) (profile : SeccompProfile)
        (c : Creation (state_of old p) old.moment key image profile)
        → (at : ℕ) (container : Container) → slice_get p.past.pod.containers.all at ≡ Some container
        → is_init p.past.pod at ≡ true
        → (is_init p.past.pod c.place ≡ true → at < c.place) → EndedWithZero old p at container
    init_ended old ls good from p here key image profile c at container there is before =
        let state : Kept = state_of old p in
        let inside : at < length state.tracks =
        omega (
          arith,
          slice_get_within p.past.pod.containers.all at container there,
          counts old.settings p.past.pod p.past.claims,
        ) in
        elim ((slice_get_cases state.tracks at).1) [
          | inr outside ↦ absurd (omega (arith, inside, outside.0))
          | inl found ↦
              let track : Track = found.0 in
              let e : EndedWell state.pod.policy track =
              c.in_order at track found.2 (inits old.settings p.past.pod p.past.claims at track found.2 ∙ is)
              (λ init. before (sym (inits old.settings p.past.pod p.past.claims c.place c.track c.here)
              ∙ init)) in
              let told : (k : ℕ) × RunReported p.past.pod.uid p.past.claims container.name k e.run =
              told_last p.past.pod.uid p.past.claims container.name track
              (tolds old.settings p.past.pod p.past.claims (good.of_pod from p here) at track container
              found.2 there) e.run e.last in
              record {
                track = track;
                here = found.2;
                run = e.run;
                last = e.last;
                zero = e.zero;
                attempt =
                    told.0;
                was_told = told.1;
              }
        ]

    creation_law : (old : NodeState) (ls : List NodeLink) → Good ls old
        → (worker : ℕ) (uid : List ℕ) (request : Request) → GivenLaw old worker uid request
        → (key : Key) (image : List ℕ) (profile : SeccompProfile)
        → request.call ≡ CreateContainer key image profile → CreationLaw old uid key image profile
    creation_law old ls good worker uid request g key image profile is =
        let p : OnNode = g.pod in
        let c : Creation (state_of old p) old.moment key image profile =
        creations (state_of old p) old.moment key image profile (g.due ∙ ap Some is) in
        let pod_same : (state_of old p).pod ≡ p.past.pod = pod_is old.settings p.past.pod p.past.claims in
        let named : slice_get p.past.pod.containers.all c.place ≡ Some c.container =
        ap (λ (pod : Pod). slice_get pod.containers.all c.place) (sym pod_same) ∙ c.named in
        let told : RunsReported p.past.pod.uid p.past.claims c.container.name c.track =
        tolds old.settings p.past.pod p.past.claims (good.of_pod g.place p g.here) c.place c.track
        c.container c.here named in
        record {
          place = g.place;
          pod = p;
          here = g.here;
          of_uid = g.of_uid;
          undeleted = made_undeleted (state_of old p) old.moment key image profile (g.due ∙ ap Some is);
          creation = c;
          container_is = named;
          key_is = c.of_container ∙ ap (λ (u : List ℕ). key_named u c.container.name key.container.attempt)
              (ap (λ (pod : Pod). pod.uid) pod_same ∙ g.of_uid);
          profile_is = c.its_profile
              ∙ ap (λ (pod : Pod). choice_of pod.profile c.container
              (state_of old p).settings.seccomp_default) pod_same
              ∙ ap (λ (s : Settings). choice_of p.past.pod.profile c.container s.seccomp_default)
              (settings_is old.settings p.past.pod p.past.claims);
          inits = init_ended old ls good g.place p g.here key image profile c;
          again = λ k next.
              let f : Follows (state_of old p).pod.policy c.track k old.moment = c.follows k next in
              let l : LastRun p.past.pod.uid p.past.claims c.container.name c.track k =
              told.ended k (subst (λ (s : Stage). HasEnded k s) (sym f.stage) refl) in
              record {
                run = l.run;
                last = l.last;
                was_told = l.told;
                may = ap (λ (b : Bool). may_restart p.past.pod.policy b l.run.code)
                    (sym (inits old.settings p.past.pod p.past.claims c.place c.track c.here))
                    ∙ ap (λ (r : Run). may_restart p.past.pod.policy c.track.init r.code)
                    (same_Some l.run f.run (sym l.last ∙ f.last))
                    ∙ ap (λ (pod : Pod). may_restart pod.policy c.track.init f.run.code) (sym pod_same)
                    ∙ f.may;
                ready = f.ready;
              };
        }

    pub link_laws : (settings : Settings) (l : NodeLink) (before : List NodeLink)
        → IsNodeRun settings (l ∷ before) → NodeLinkLaws l before
    link_laws settings l before run =
        let good : Good before l.old = subst (Good before) (sym run.0)
        (good_run calls numbers settings before run.2) in
        let gives : (worker : ℕ) (uid : List ℕ) (request : Request) → Gives worker uid request l
        → GivesIs l.old worker uid request l.new =
        λ worker uid request g. gives_is l.old l.event l.answer l.new run.1 worker uid request g.event_is
        g.given in
        record {
          admitted_once = λ pod a h.
              let differ : false ≡ true = sym (admits_is l.old l.event l.answer l.new run.1 pod a.event_is
              a.done).0 ∙ good.heard pod.uid h in cc;
          number_once = λ worker other uid another request its g h.
              let law : GivenLaw l.old worker uid request =
              given_law l.old worker uid request l.new (gives worker uid request g) in
              omega (arith, law.number, good.numbers other another its h);
          given = λ worker uid request g. given_law l.old worker uid request l.new
              (gives worker uid request g);
          asked = asked l.old l.event l.answer l.new run.1;
          nothing = λ worker is. nothing_law l.old l.answer l.new worker
              (subst (λ (e : AgentEvent). NodeStep l.old e l.answer l.new) is run.1);
          creation = λ worker uid request g. creation_law l.old before good worker uid request
              (given_law l.old worker uid request l.new (gives worker uid request g));
          remains = remains l.old l.event l.answer l.new run.1;
        }
