-- The laws of every run of the world.
use Rattle.std.proofs.Common.{◌≡◌, inl, inr, ℕ, List, [], ◌∷◌, Option, Some, None, slice_get, refl, sym, ◌∙◌}
use Rattle.std.proofs.Common.{ap, subst}
use Rattle.bpf_code.specs.declared.insn.Insn.{Insn}
use Rattle.lifecycle.specs.BackOff.{Run}
use Rattle.lifecycle.specs.declared.track.Track.{Track}
use Rattle.manifest.specs.declared.containers.Container.{Container}
use Rattle.manifest.specs.declared.pods.Pod.{Pod}
use Rattle.manifest.specs.declared.profiles.SeccompProfile.{SeccompProfile}
use Rattle.cri_msgs.specs.declared.calls.Call.TheVariants.{CreateContainer}
use Rattle.cri_msgs.specs.declared.keys.Key.{Key}
use Rattle.cri_msgs.specs.declared.replies.Answer.TheVariants as answers
use Rattle.runtime_cell.specs.Cell.{Cell}
use Rattle.creation.specs.Files.{IsMadeFrom}
use Rattle.runtime_laws.specs.Laws.{IsThere, LinkLaws, MakesAt, RunLaws, Seen}
use Rattle.runtime_laws.specs.Runs.{IsRun, Link}
use Rattle.runtime_laws.specs.Runs.{Event as cells}
use Rattle.registry.specs.Runtime.{In, Runtime, Slot, slot_of}
use Rattle.registry.specs.Runtime.Slot.{Free, There, Gone}
use Rattle.worker_pod.specs.declared.settings.Settings.{Settings}
use Rattle.worker_pod.specs.Laws.{key_named}
use Rattle.worker_pod.specs.Past.{read_off}
use Rattle.worker_core.specs.declared.events.AgentEvent.TheVariants.{Admit}
use Rattle.worker_core.specs.Laws.{Admits, AdmitsUid, Happened, IsNodeRun, NodeLaws, NodeLink, NodeLinkLaws}
use Rattle.worker_core.specs.Laws.{node_now}
use Rattle.worker_core.specs.Nodes.{NodeState, OnNode}
use Rattle.world.specs.Laws.{EndedWith, IsFromManifest, IsInTurn, IsPodOf, MakesCell, WorldLaws}
use Rattle.world.specs.Laws.{WorldLinkLaws, profile_of}
use Rattle.world.specs.World.{Event, IsWorldRun, WorldLink, WorldState, WorldStep, behind, node_link}
use Rattle.world.specs.World.{node_part, runtime_link, runtime_part}
use Rattle.world.specs.World.Event.{Acted, Served, Reported, Lost, Stepped, Killed}
use Rattle.world.proofs.Creations.{Asked, given_asked, served_asked, served_before}
use Rattle.world.proofs.Exits.{EndTruly, ends_truly, told_truly}
use Rattle.world.proofs.Parts.{Parts, parts}

module _
    (run_laws : (baseline : Option (List Insn)) (ls : List Link) → IsRun baseline ls → RunLaws baseline ls)
    (run_links : (baseline : Option (List Insn)) (l : Link) (before : List Link) → IsRun baseline (l ∷ before)
    → LinkLaws l before)
    (node_laws : (settings : Settings) (ls : List NodeLink) → IsNodeRun settings ls → NodeLaws settings ls)
    (node_links : (settings : Settings) (l : NodeLink) (before : List NodeLink)
    → IsNodeRun settings (l ∷ before) → NodeLinkLaws l before)
  where
    truly : (settings : Settings) (baseline : Option (List Insn)) (ls : List WorldLink)
        → IsWorldRun settings baseline ls → EndTruly ls
    truly = ends_truly run_links node_laws

    -- one pod was admitted under a uid
    uid_known : (other : Pod) (uid : List ℕ) (ls : List NodeLink) → other.uid ≡ uid
        → Happened (Admits other) ls → Happened (AdmitsUid uid) ls
    uid_known other uid [] e h = h
    uid_known other uid (l ∷ ls) e (inl now) = inl (record { pod = other; admits = now; of_uid = e })
    uid_known other uid (l ∷ ls) e (inr before) = inr (uid_known other uid ls e before)

    one_pod : (settings : Settings) (ls : List NodeLink) → IsNodeRun settings ls → (a b : Pod)
        → Happened (Admits a) ls → Happened (Admits b) ls → a.uid ≡ b.uid → a ≡ b
    one_pod settings [] run a b ha hb e = absurd ha
    one_pod settings (l ∷ ls) run a b (inl ha) (inl hb) e = let both : Admit a ≡ Admit b = sym ha.event_is
        ∙ hb.event_is in cc
    one_pod settings (l ∷ ls) run a b (inl ha) (inr hb) e =
        absurd ((node_links settings l ls run).admitted_once a ha (uid_known b a.uid ls (sym e) hb))
    one_pod settings (l ∷ ls) run a b (inr ha) (inl hb) e =
        absurd ((node_links settings l ls run).admitted_once b hb (uid_known a b.uid ls e ha))
    one_pod settings (l ∷ ls) run a b (inr ha) (inr hb) e = one_pod settings ls run.2 a b ha hb e

    pod_of : (settings : Settings) (ls : List WorldLink) → IsNodeRun settings (node_part ls)
        → (key : Key) (image : List ℕ) (profile : SeccompProfile) (a : Asked settings ls key image profile)
        → IsPodOf ls key.uid a.pod
    pod_of settings ls run key image profile a =
        record {
          admitted = a.admitted;
          of_uid = a.of_uid;
          only = λ other h e.
              one_pod settings (node_part ls) run other a.pod h a.admitted (e ∙ sym a.of_uid);
        }

    in_turn : (settings : Settings) (ls : List WorldLink) → IsNodeRun settings (node_part ls)
        → (key : Key) (image : List ℕ) (profile : SeccompProfile) → Asked settings ls key image profile
        → IsInTurn ls key
    in_turn settings ls run key image profile a =
        record {
          pod = a.pod;
          is_pod = pod_of settings ls run key image profile a;
          place = a.place;
          container = a.container;
          is_container = a.is_container;
          again = a.again;
          inits = a.inits;
        }

    from_manifest : (settings : Settings) (baseline : Option (List Insn)) (ls : List WorldLink)
        → IsWorldRun settings baseline ls → (key : Key) (cell : Cell) → Seen (runtime_part ls) key cell
        → IsFromManifest settings baseline ls key cell.making
    from_manifest settings baseline ls run key cell seen =
        let p : Parts settings baseline ls = parts settings baseline ls run in
        let (link, among, m, baseline_is) : (l : Link) × In l (runtime_part ls) × MakesAt l key cell.making
        × (l.old.baseline ≡ baseline) = (run_laws baseline (runtime_part ls) p.runtime).made_from key cell
        seen in
        let a : Asked settings ls key m.image m.choice =
        served_asked truly node_laws node_links settings baseline ls run link among key m.image m.choice
        m.files (answers.Container m.id) m.event in
        record {
          pod = a.pod;
          is_pod = pod_of settings ls p.node key m.image m.choice a;
          place = a.place;
          container = a.container;
          is_container = a.is_container;
          files = m.files;
          id = m.id;
          link = link;
          among = among;
          created = subst (λ (i : List ℕ). link.event
              ≡ cells.Served (CreateContainer key i (profile_of settings a.pod a.container)) m.files
              (answers.Container m.id)) a.its_image
              (subst (λ (c : SeccompProfile). link.event
              ≡ cells.Served (CreateContainer key m.image c) m.files (answers.Container m.id))
              a.its_profile m.event);
          from = subst (λ (i : List ℕ). IsMadeFrom baseline m.id key.container i
              (profile_of settings a.pod a.container) m.files cell.making) a.its_image
              (subst (λ (c : SeccompProfile). IsMadeFrom baseline m.id key.container m.image c m.files
              cell.making) a.its_profile
              (subst (λ (b : Option (List Insn)).
              IsMadeFrom b m.id key.container m.image m.choice m.files cell.making) baseline_is m.from));
        }

    codes : (settings : Settings) (baseline : Option (List Insn)) (ls : List WorldLink)
        → IsWorldRun settings baseline ls
        → (at : ℕ) (p : OnNode) → slice_get (node_now settings (node_part ls)).pods at ≡ Some p
        → (place : ℕ) (track : Track) (container : Container)
        → slice_get (read_off p.past.pod settings p.past.claims).tracks place ≡ Some track
        → slice_get p.past.pod.containers.all place ≡ Some container
        → (k : ℕ) (run : Run) → slice_get track.runs k ≡ Some run
        → EndedWith ls (key_named p.past.pod.uid container.name k) run.code
    codes settings baseline ls run at p here place track container here_track here_container k r its_place =
        let laws : NodeLaws settings (node_part ls) =
        node_laws settings (node_part ls) (parts settings baseline ls run).node in
        let its : slice_get (read_off p.past.pod (node_now settings (node_part ls)).settings
        p.past.claims).tracks place ≡ Some track =
        ap (λ (s : Settings). slice_get (read_off p.past.pod s p.past.claims).tracks place) laws.settings_stay
        ∙ here_track in
        told_truly ls (truly settings baseline ls run) p.past.pod.uid p.past.claims (λ c among.
        laws.ended at p c here among) container.name k r
        (laws.numbered at p here place track container its here_container k r its_place)

    pub world_laws : (settings : Settings) (baseline : Option (List Insn)) (ls : List WorldLink)
        → IsWorldRun settings baseline ls → WorldLaws settings baseline ls
    world_laws settings baseline ls run =
        let p : Parts settings baseline ls = parts settings baseline ls run in
        record {
          runtime = run_laws baseline (runtime_part ls) p.runtime;
          runtime_is = p.runtime_is;
          node = node_laws settings (node_part ls) p.node;
          node_is = p.node_is;
          from_manifest = from_manifest settings baseline ls run;
          codes = λ at q here. codes settings baseline ls run at q
              (ap (λ (n : NodeState). slice_get n.pods at) p.node_is ∙ here);
        }

    -- the cell that is there was made with this event, or before
    there_is : (s : Slot) → IsThere s → (cell : Cell) × (s ≡ There cell)
    there_is Free t = absurd t
    there_is (There cell) t = (cell, refl)
    there_is Gone t = absurd t

    made_by : (settings : Settings) (baseline : Option (List Insn)) (l : WorldLink) (before : List WorldLink)
        → IsWorldRun settings baseline (l ∷ before) → (key : Key) (cell : Cell)
        → Seen (runtime_part (l ∷ before)) key cell → (image : List ℕ) × (profile : SeccompProfile)
        × Asked settings before key image profile
    made_by settings baseline l before run key cell seen =
        let p : Parts settings baseline (l ∷ before) = parts settings baseline (l ∷ before) run in
        let (link, among, m, baseline_is) : (link : Link) × In link (runtime_part (l ∷ before))
        × MakesAt link key cell.making × (link.old.baseline ≡ baseline) =
        (run_laws baseline (runtime_part (l ∷ before)) p.runtime).made_from key cell seen in (
          m.image,
          m.choice,
          served_before truly node_laws node_links settings baseline l before run link among
              key m.image m.choice m.files (answers.Container m.id) m.event,
        )

    not_there : (old new : Runtime) (key : Key) → new ≡ old → ¬ IsThere (slot_of old key)
        → IsThere (slot_of new key) → ⊥
    not_there old new key same was is = was (subst (λ (r : Runtime). IsThere (slot_of r key)) same is)

    -- what is there now is seen in the runtime's part, if this event is the runtime's
    seen_now : (old : WorldState) (event : Event) (new : WorldState) (before : List WorldLink)
        → WorldStep old event new → (key : Key) → ¬ IsThere (slot_of old.runtime key)
        → IsThere (slot_of new.runtime key)
        → (cell : Cell) → slot_of new.runtime key ≡ There cell
        → Seen (runtime_part (record { old = old; event = event; new = new } ∷ before)) key cell
    seen_now old (Acted act answer) new before step key was is cell there =
        absurd (not_there old.runtime new.runtime key step.runtime was is)
    seen_now old (Reported worker which exchange answer) new before step key was is cell there =
        absurd (not_there old.runtime new.runtime key step.runtime was is)
    seen_now old (Lost worker answer) new before step key was is cell there =
        absurd (not_there old.runtime new.runtime key step.runtime was is)
    seen_now old (Served which request files reply) new before step key was is cell there =
        (_, inl refl, there)
    seen_now old (Stepped id did) new before step key was is cell there = (_, inl refl, there)
    seen_now old (Killed id code) new before step key was is cell there = (_, inl refl, there)

    made : (settings : Settings) (baseline : Option (List Insn)) (l : WorldLink) (before : List WorldLink)
        → IsWorldRun settings baseline (l ∷ before) → (key : Key) → MakesCell l key → IsInTurn before key
    made settings baseline l before run key makes =
        let found : (cell : Cell) × (slot_of l.new.runtime key ≡ There cell) =
        there_is (slot_of l.new.runtime key) makes.is in
        let seen : Seen (runtime_part (l ∷ before)) key found.0 =
        seen_now l.old l.event l.new before run.1 key makes.was_not makes.is found.0 found.1 in
        let a : (image : List ℕ) × (profile : SeccompProfile) × Asked settings before key image profile =
        made_by settings baseline l before run key found.0 seen in
        in_turn settings before (parts settings baseline before run.2).node key a.0 a.1 a.2

    link_of : (baseline : Option (List Insn)) (o : Option Link) (ls : List Link)
        → IsRun baseline (behind o ls) → (link : Link) → o ≡ Some link → LinkLaws link ls
    link_of baseline None ls run link is = absurd cc
    link_of baseline (Some l) ls run link is = let same : l ≡ link = cc in
        subst (λ (x : Link). LinkLaws x ls) same (run_links baseline l ls run)

    node_link_of : (settings : Settings) (o : Option NodeLink) (ls : List NodeLink)
        → IsNodeRun settings (behind o ls) → (link : NodeLink) → o ≡ Some link
        → NodeLinkLaws link ls × (link.old ≡ node_now settings ls)
    node_link_of settings None ls run link is = absurd cc
    node_link_of settings (Some l) ls run link is =
        let same : l ≡ link = cc in
        subst (λ (x : NodeLink). NodeLinkLaws x ls × (x.old ≡ node_now settings ls)) same
        (node_links settings l ls run, run.0)

    pub world_link_laws : (settings : Settings) (baseline : Option (List Insn)) (l : WorldLink)
        (before : List WorldLink) → IsWorldRun settings baseline (l ∷ before) → WorldLinkLaws l before
    world_link_laws settings baseline l before run =
        let p : Parts settings baseline (l ∷ before) = parts settings baseline (l ∷ before) run in
        let q : Parts settings baseline before = parts settings baseline before run.2 in
        record {
          runtime = link_of baseline (runtime_link l) (runtime_part before) p.runtime;
          node = λ link is. (node_link_of settings (node_link l) (node_part before) p.node link is).0;
          asked = λ link worker uid request is gives key image profile call_is.
              let both : NodeLinkLaws link (node_part before)
              × (link.old ≡ node_now settings (node_part before)) =
              node_link_of settings (node_link l) (node_part before) p.node link is in
              in_turn settings before q.node key image profile
              (given_asked settings before (truly settings baseline before run.2)
              (node_laws settings (node_part before) q.node) link both.1 both.0 worker uid request gives
              key image profile call_is);
          made = made settings baseline l before run;
        }
