-- Each container follows its pod's manifest, and is made in its turn.
use Rattle.std.proofs.Common.{◌≡◌, ◌⊎◌, inl, inr, ℕ, ◌+◌, ◌<◌, true, List, [], ◌∷◌, ◌++◌, Option, Some}
use Rattle.std.proofs.Common.{slice_get, append-nil, refl, sym, ◌∙◌, ap, subst}
use Rattle.bpf_code.specs.declared.insn.Insn.{Insn}
use Rattle.manifest.specs.declared.containers.Container.{Container}
use Rattle.manifest.specs.declared.pods.Pod.{Pod}
use Rattle.manifest.specs.declared.profiles.SeccompProfile.{SeccompProfile}
use Rattle.cri_msgs.specs.declared.calls.Call.TheVariants.{CreateContainer}
use Rattle.cri_msgs.specs.declared.calls.Request.{Request}
use Rattle.cri_msgs.specs.declared.keys.Key.{Key}
use Rattle.cri_msgs.specs.declared.replies.Answer.{Answer as Replied}
use Rattle.creation.specs.declared.files.FileAnswers.{FileAnswers}
use Rattle.runtime_laws.specs.Runs.{Link}
use Rattle.runtime_laws.specs.Runs.{Event as cells}
use Rattle.registry.specs.Runtime.{In}
use Rattle.worker_pod.specs.declared.settings.Settings.{Settings}
use Rattle.worker_pod.specs.Laws.{key_named}
use Rattle.worker_core.specs.declared.answers.Answer.{Answer}
use Rattle.worker_core.specs.declared.answers.Answer.TheVariants.{Done, Claimed, Nothing, Refused}
use Rattle.worker_core.specs.Laws.{Admits, Again, CreationLaw, EndedWithZero, Gives, Happened, IsNodeRun}
use Rattle.worker_core.specs.Laws.{NodeLaws, NodeLink, NodeLinkLaws, is_init, node_now}
use Rattle.worker_core.specs.Nodes.{NodeState}
use Rattle.world.specs.Laws.{EndedWith, HasEndedBefore, HasSucceeded, IsContainer, profile_of}
use Rattle.world.specs.World.{Event, IsWorldRun, WorldLink, WorldState, WorldStep, node_part, runtime_part}
use Rattle.world.specs.World.{sent_by, world_now}
use Rattle.world.specs.World.Event.{Acted, Served, Reported, Lost, Stepped, Killed}
use Rattle.world.proofs.Exits.{EndTruly, in_push, told_truly}
use Rattle.world.proofs.Parts.{Parts, ended_more, happened_more, parts}

-- The manifest of an admitted pod asks for this creation, whose turn has come. Once true, this stays true.
pub record Asked (settings : Settings) (ls : List WorldLink) (key : Key) (image : List ℕ)
    (profile : SeccompProfile) : Type 0 where
  pub pod : Pod
  pub admitted : Happened (Admits pod) (node_part ls)
  pub of_uid : pod.uid ≡ key.uid
  pub place : ℕ
  pub container : Container
  pub is_container : IsContainer pod key.container.name place container
  pub its_image : image ≡ container.image
  pub its_profile : profile ≡ profile_of settings pod container
  pub again : (k : ℕ) → key.container.attempt ≡ k + 1 → HasEndedBefore ls pod place key k
  pub inits : (at : ℕ) (other : Container) → slice_get pod.containers.all at ≡ Some other
      → is_init pod at ≡ true
      → (is_init pod place ≡ true → at < place) → HasSucceeded ls key.uid other.name

pub asked_more : (settings : Settings) (l : WorldLink) (ls : List WorldLink) (key : Key) (image : List ℕ)
    (profile : SeccompProfile)
    → Asked settings ls key image profile → Asked settings (l ∷ ls) key image profile
asked_more settings l ls key image profile a = record {
  pod = a.pod;
  admitted = happened_more (Admits a.pod) l ls a.admitted;
  of_uid = a.of_uid;
  place = a.place;
  container = a.container;
  is_container = a.is_container;
  its_image = a.its_image;
  its_profile = a.its_profile;
  again = λ k next.
      let was : HasEndedBefore ls a.pod a.place key k = a.again k next in
      record {
        code = was.code;
        ended = ended_more l ls (key_named key.uid key.container.name k) was.code
            was.ended;
        may = was.may;
      };
  inits = λ at other here is before.
      let was : HasSucceeded ls key.uid other.name = a.inits at other here is before in
      record {
        attempt = was.attempt;
        ended =
            ended_more l ls (key_named key.uid other.name was.attempt) 0 was.ended;
      };
}

-- each creation of the list is asked for
abbrev pub AskedAll : Settings → List WorldLink → List Request → Type 0
AskedAll settings ls sent = (which : ℕ) (request : Request) → slice_get sent which ≡ Some request
    → (key : Key) (image : List ℕ) (profile : SeccompProfile)
    → request.call ≡ CreateContainer key image profile → Asked settings ls key image profile

module _ (settings : Settings) (ls : List WorldLink) (truly : EndTruly ls)
    (laws : NodeLaws settings (node_part ls)) where
  asked_of : (key : Key) (image : List ℕ) (profile : SeccompProfile)
      → CreationLaw (node_now settings (node_part ls)) key.uid key image profile
      → Asked settings ls key image profile
  asked_of key image profile law =
      let node : NodeState = node_now settings (node_part ls) in
      let name_is : law.creation.container.name ≡ key.container.name =
      sym (ap (λ (k : Key). k.container.name) law.key_is) in
      record {
        pod = law.pod.past.pod;
        admitted = laws.admitted law.place law.pod law.here;
        of_uid = law.of_uid;
        place = law.creation.place;
        container = law.creation.container;
        is_container = record { here = law.container_is; named = name_is };
        its_image = law.creation.its_image;
        its_profile = law.profile_is ∙ ap (λ (s : Settings).
            profile_of s law.pod.past.pod law.creation.container) laws.settings_stay;
        again = λ k next.
            let a : Again node law.pod law.creation.place law.creation.track law.creation.container k =
            law.again k next in
            record {
              code = a.run.code;
              ended = subst (λ (u : List ℕ). EndedWith ls (key_named u key.container.name k) a.run.code)
                  law.of_uid
                  (subst (λ (n : List ℕ). EndedWith ls (key_named law.pod.past.pod.uid n k) a.run.code)
                  name_is
                  (told_truly ls truly law.pod.past.pod.uid law.pod.past.claims (λ c among.
                  laws.ended law.place law.pod c law.here among) law.creation.container.name k a.run
                  a.was_told));
              may = a.may;
            };
        inits = λ at other here is before.
            let e : EndedWithZero node law.pod at other = law.inits at other here is before in
            record {
              attempt = e.attempt;
              ended = subst (λ (u : List ℕ). EndedWith ls (key_named u other.name e.attempt) 0) law.of_uid
                  (subst (EndedWith ls (key_named law.pod.past.pod.uid other.name e.attempt)) e.zero
                  (told_truly ls truly law.pod.past.pod.uid law.pod.past.claims (λ c among.
                  laws.ended law.place law.pod c law.here among) other.name e.attempt e.run e.was_told));
            };
      }

  -- what a worker is given is asked for in the run before
  pub given_asked : (l : NodeLink) → l.old ≡ node_now settings (node_part ls) → NodeLinkLaws l (node_part ls)
      → (worker : ℕ) (uid : List ℕ) (request : Request) → Gives worker uid request l
      → (key : Key) (image : List ℕ) (profile : SeccompProfile)
      → request.call ≡ CreateContainer key image profile → Asked settings ls key image profile
  given_asked l from link worker uid request gives key image profile is =
      let law : CreationLaw l.old uid key image profile =
      link.creation worker uid request gives key image profile is in
      let uid_is : uid ≡ key.uid = sym (ap (λ (k : Key). k.uid) law.key_is) in
      asked_of key image profile
      (subst (λ (n : NodeState). CreationLaw n key.uid key image profile) from
      (subst (λ (u : List ℕ). CreationLaw l.old u key image profile) uid_is law))

-- what is sent is asked for
sent_still : (settings : Settings) (l : WorldLink) (ls : List WorldLink) (old new : List Request) → new ≡ old
    → AskedAll settings ls old → AskedAll settings (l ∷ ls) new
sent_still settings l ls old new same was which request here key image profile is =
    asked_more settings l ls key image profile
    (was which request (sym (ap (λ (s : List Request). slice_get s which) same)
    ∙ here) key image profile is)

module _ (settings : Settings) (ls : List WorldLink) (old : WorldState)
    (was : AskedAll settings ls old.sent) where
  acted_asked : (l : WorldLink) (answer : Answer) (new : List Request) → new ≡ old.sent ++ sent_by answer
      → ((uid : List ℕ) (number : ℕ) (request : Request) → answer ≡ Claimed uid number request
      → (key : Key) (image : List ℕ) (profile : SeccompProfile)
      → request.call ≡ CreateContainer key image profile → Asked settings ls key image profile)
      → AskedAll settings (l ∷ ls) new
  acted_asked l Done new same given = sent_still settings l ls old.sent new (same ∙ append-nil old.sent) was
  acted_asked l Nothing new same given =
      sent_still settings l ls old.sent new (same ∙ append-nil old.sent) was
  acted_asked l (Refused refusal) new same given =
      sent_still settings l ls old.sent new (same ∙ append-nil old.sent) was
  acted_asked l (Claimed uid number request) new same given = λ which its here key image profile is.
      elim (in_push old.sent request which its (sym (ap (λ (s : List Request). slice_get s which) same)
      ∙ here)) [
        | inl before ↦ asked_more settings l ls key image profile (was which its before key image profile is)
        | inr now ↦ asked_more settings l ls key image profile
            (given uid number request refl key image profile (ap (λ (r : Request). r.call) (sym now) ∙ is))
      ]

module _
    (truly : (settings : Settings) (baseline : Option (List Insn)) (ls : List WorldLink)
    → IsWorldRun settings baseline ls → EndTruly ls)
    (node_laws : (settings : Settings) (ls : List NodeLink) → IsNodeRun settings ls → NodeLaws settings ls)
    (node_links : (settings : Settings) (l : NodeLink) (before : List NodeLink)
    → IsNodeRun settings (l ∷ before) → NodeLinkLaws l before)
  where
    sent_more : (settings : Settings) (baseline : Option (List Insn)) (ls : List WorldLink)
        (run : IsWorldRun settings baseline ls)
        (old : WorldState) (event : Event) (new : WorldState) → old ≡ world_now settings baseline ls
        → WorldStep old event new
        → Parts settings baseline (record { old = old; event = event; new = new } ∷ ls)
        → AskedAll settings ls old.sent → AskedAll settings (record { old = old; event = event; new = new }
        ∷ ls) new.sent
    sent_more settings baseline ls run old (Served which request files reply) new from step p was =
        sent_still settings _ ls old.sent new.sent step.sent was
    sent_more settings baseline ls run old (Reported worker which exchange answer) new from step p was =
        sent_still settings _ ls old.sent new.sent step.sent was
    sent_more settings baseline ls run old (Lost worker answer) new from step p was =
        sent_still settings _ ls old.sent new.sent step.sent was
    sent_more settings baseline ls run old (Stepped id did) new from step p was =
        sent_still settings _ ls old.sent new.sent step.1.sent was
    sent_more settings baseline ls run old (Killed id code) new from step p was =
        sent_still settings _ ls old.sent new.sent step.1.sent was
    sent_more settings baseline ls run old (Acted act answer) new from step p was =
        let link : NodeLinkLaws _ (node_part ls) = node_links settings _ (node_part ls) p.node in
        acted_asked settings ls old was _ answer new.sent step.sent
        (λ uid number request said.
        let gives : _ = link.asked uid number request said in
        given_asked settings ls (truly settings baseline ls run) (node_laws settings (node_part ls) p.node.2)
        _ p.node.0 link gives.0 uid request gives.1)

    pub sent_asked : (settings : Settings) (baseline : Option (List Insn)) (ls : List WorldLink)
        → IsWorldRun settings baseline ls → AskedAll settings ls (world_now settings baseline ls).sent
    sent_asked settings baseline [] run = λ which request here key image profile is. absurd cc
    sent_asked settings baseline (l ∷ ls) run =
        sent_more settings baseline ls run.2 l.old l.event l.new run.0 run.1
        (parts settings baseline (l ∷ ls) run)
        (subst (λ (w : WorldState). AskedAll settings ls w.sent) (sym run.0)
        (sent_asked settings baseline ls run.2))

    -- a creation that is served was asked for before
    served_now : (settings : Settings) (ls : List WorldLink) (old : WorldState) (event : Event)
        (new : WorldState) → WorldStep old event new → AskedAll settings ls old.sent
        → (link : Link) → In link (runtime_part (record { old = old; event = event; new = new } ∷ ls))
        → (key : Key) (image : List ℕ) (profile : SeccompProfile) (files : FileAnswers) (answer : Replied)
        → link.event ≡ cells.Served (CreateContainer key image profile) files answer
        → Asked settings ls key image profile ⊎ In link (runtime_part ls)
    served_now settings ls old (Acted act its) new step was link i key image profile files answer is = inr i
    served_now settings ls old (Reported worker which exchange its) new step was link i key image profile
        files answer is = inr i
    served_now settings ls old (Lost worker its) new step was link i key image profile files answer is = inr i
    served_now settings ls old (Stepped id did) new step was link (inr i) key image profile files answer is =
        inr i
    served_now settings ls old (Stepped id did) new step was link (inl same) key image profile files answer is
        =
        let differ : cells.Stepped id (Some did)
        ≡ cells.Served (CreateContainer key image profile) files answer =
        sym (ap (λ (l : Link). l.event) same) ∙ is in absurd cc
    served_now settings ls old (Killed id code) new step was link (inr i) key image profile files answer is =
        inr i
    served_now settings ls old (Killed id code) new step was link (inl same) key image profile files answer is
        =
        let differ : cells.Killed id code (Some (tt {0}))
        ≡ cells.Served (CreateContainer key image profile) files answer =
        sym (ap (λ (l : Link). l.event) same) ∙ is in absurd cc
    served_now settings ls old (Served which request its reply) new step was link
        (inr i) key image profile files answer is = inr i
    served_now settings ls old (Served which request its reply) new step was link
        (inl same) key image profile files answer is =
        let both : cells.Served request.call its reply.answer
        ≡ cells.Served (CreateContainer key image profile) files answer =
        sym (ap (λ (l : Link). l.event) same) ∙ is in
        let call_is : request.call ≡ CreateContainer key image profile = cc in
        inl (was which request step.was_sent key image profile call_is)

    served_step : (settings : Settings) (baseline : Option (List Insn)) (l : WorldLink) (ls : List WorldLink)
        → IsWorldRun settings baseline (l ∷ ls)
        → (link : Link) → In link (runtime_part (l ∷ ls))
        → (key : Key) (image : List ℕ) (profile : SeccompProfile) (files : FileAnswers) (answer : Replied)
        → link.event ≡ cells.Served (CreateContainer key image profile) files answer
        → Asked settings ls key image profile ⊎ In link (runtime_part ls)
    served_step settings baseline l ls run link i key image profile files answer is =
        served_now settings ls l.old l.event l.new run.1
        (subst (λ (w : WorldState). AskedAll settings ls w.sent) (sym run.0)
        (sent_asked settings baseline ls run.2))
        link i key image profile files answer is

    pub served_asked : (settings : Settings) (baseline : Option (List Insn)) (ls : List WorldLink)
        → IsWorldRun settings baseline ls
        → (link : Link) → In link (runtime_part ls)
        → (key : Key) (image : List ℕ) (profile : SeccompProfile) (files : FileAnswers) (answer : Replied)
        → link.event ≡ cells.Served (CreateContainer key image profile) files answer
        → Asked settings ls key image profile
    served_asked settings baseline [] run link i key image profile files answer is = absurd i
    served_asked settings baseline (l ∷ ls) run link i key image profile files answer is =
        asked_more settings l ls key image profile
        (elim (served_step settings baseline l ls run link i key image profile files answer is) [
          | inl now ↦ now
          | inr before ↦ served_asked settings baseline ls run.2 link before key image profile files answer is
        ])

    -- the same for one that the last event served
    pub served_before : (settings : Settings) (baseline : Option (List Insn)) (l : WorldLink)
        (ls : List WorldLink) → IsWorldRun settings baseline (l ∷ ls)
        → (link : Link) → In link (runtime_part (l ∷ ls))
        → (key : Key) (image : List ℕ) (profile : SeccompProfile) (files : FileAnswers) (answer : Replied)
        → link.event ≡ cells.Served (CreateContainer key image profile) files answer
        → Asked settings ls key image profile
    served_before settings baseline l ls run link i key image profile files answer is =
        elim (served_step settings baseline l ls run link i key image profile files answer is) [
          | inl now ↦ now
          | inr before ↦ served_asked settings baseline ls run.2 link before key image profile files answer is
        ]
