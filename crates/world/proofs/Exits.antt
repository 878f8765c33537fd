-- Each exit that a node learns of is that of a cell.
use Rattle.std.proofs.Common.{◌≡◌, ◌⊎◌, inl, inr, ℕ, ◌<◌, List, [], ◌∷◌, ◌++◌, length, Option, Some}
use Rattle.std.proofs.Common.{slice_get, slice_index_or, refl, sym, ◌∙◌, ap, subst, suc, zero, arith}
use Rattle.bpf_code.specs.declared.insn.Insn.{Insn}
use Rattle.cri_msgs.specs.Tells.{TellsExit}
use Rattle.cri_msgs.specs.declared.calls.Request.{Request}
use Rattle.cri_msgs.specs.declared.keys.Key.{Key}
use Rattle.cri_msgs.specs.declared.replies.Reply.{Reply}
use Rattle.lifecycle.specs.BackOff.{Run}
use Rattle.runtime_laws.specs.Laws.{LinkLaws}
use Rattle.runtime_laws.specs.Runs.{IsRun, Link}
use Rattle.worker_pod.specs.declared.settings.Outcome.TheVariants as outcome
use Rattle.worker_pod.specs.declared.settings.Settings.{Settings}
use Rattle.worker_pod.specs.Laws.{RunReported, key_named}
use Rattle.worker_pod.specs.Past.{Claimed}
use Rattle.worker_core.specs.Laws.{Among, Ends, EndsBy, Happened, Holds, IsNodeRun, NodeLaws}
use Rattle.worker_core.specs.Nodes.{NodeState}
use Rattle.world.specs.declared.events.Act.{Act}
use Rattle.world.specs.declared.events.Act.TheVariants.{Admit, Delete, Claim, Tick, Abandon}
use Rattle.world.specs.declared.exchanges.Exchange.{Exchange}
use Rattle.world.specs.Laws.{EndedWith}
use Rattle.world.specs.World.{Event, IsWorldRun, WorldLink, WorldState, WorldStep, agent_event, node_part}
use Rattle.world.specs.World.{runtime_part, world_now}
use Rattle.world.specs.World.Event.{Acted, Served, Reported, Lost, Stepped, Killed}
use Rattle.world.proofs.Parts.{Parts, ended_more, parts}

-- an element of a list with one more was there, or is the new one
pub in_push : {A : Type 0} (xs : List A) (x : A) (at : ℕ) (y : A) → slice_get (xs ++ x ∷ []) at ≡ Some y
    → (slice_get xs at ≡ Some y) ⊎ (y ≡ x)
in_push [] x zero y e = inr cc
in_push [] x (suc at) y e = absurd cc
in_push (z ∷ zs) x zero y e = inl e
in_push (z ∷ zs) x (suc at) y e = in_push zs x at y e

among_of : (cs : List Claimed) (at : ℕ) (c : Claimed) → at < length cs → slice_index_or cs at c ≡ c
    → Among c cs
among_of [] at c less e = absurd (omega (arith, less))
among_of (d ∷ cs) zero c less e = inl e
among_of (d ∷ cs) (suc at) c less e = inr (among_of cs at c (omega (arith, less)) e)

-- each exit that a reply in the bag reports is that of a cell
abbrev pub TellTruly : List WorldLink → List Exchange → Type 0
TellTruly ls given = (which : ℕ) (x : Exchange) → slice_get given which ≡ Some x → (key : Key) (code : ℕ)
    → TellsExit x.request.call x.reply.answer key code → EndedWith ls key code

-- and so is each exit by which a claim ended
abbrev pub EndTruly : List WorldLink → Type 0
EndTruly ls = (uid : List ℕ) (c : Claimed) (reply : Reply) → Happened (Ends uid c) (node_part ls)
    → c.outcome ≡ outcome.Replied reply
    → (key : Key) (code : ℕ) → TellsExit c.request.call reply.answer key code → EndedWith ls key code

-- what the agent does by itself ends no claim by a reply
acts_end_none : (act : Act) (worker : ℕ) (reply : Reply)
    → EndsBy (agent_event act) worker (outcome.Replied reply) → ⊥
acts_end_none (Admit pod) worker reply e = e
acts_end_none (Delete uid) worker reply e = e
acts_end_none (Claim its) worker reply e = e
acts_end_none (Tick now) worker reply e = e
acts_end_none (Abandon its) worker reply e = let differ : outcome.Abandoned ≡ outcome.Replied reply = e.1 in
    cc

-- a run that was reported to a node is the end of a cell
pub told_truly : (ls : List WorldLink) → EndTruly ls → (uid : List ℕ) (cs : List Claimed)
    → ((c : Claimed) → Among c cs → Happened (Ends uid c) (node_part ls))
    → (name : List ℕ) (k : ℕ) (run : Run) → RunReported uid cs name k run
    → EndedWith ls (key_named uid name k) run.code
told_truly ls truly uid cs ended name k run (at, c, less, here, tells) =
    truly uid c tells.reply (ended c (among_of cs at c less here)) tells.is
    (key_named uid name k) run.code tells.tells

module _
    (runtime_links : (baseline : Option (List Insn)) (l : Link) (before : List Link)
    → IsRun baseline (l ∷ before) → LinkLaws l before)
    (node_laws : (settings : Settings) (ls : _) → IsNodeRun settings ls → NodeLaws settings ls)
  where
    given_still : (l : WorldLink) (ls : List WorldLink) (old new : List Exchange) → new ≡ old
        → TellTruly ls old → TellTruly (l ∷ ls) new
    given_still l ls old new same was which x here key code tells =
        ended_more l ls key code (was which x (sym (ap (λ (g : List Exchange). slice_get g which) same)
        ∙ here) key code tells)

    given_more : (settings : Settings) (baseline : Option (List Insn)) (ls : List WorldLink)
        (old : WorldState) (event : Event) (new : WorldState) → WorldStep old event new
        → Parts settings baseline (record { old = old; event = event; new = new } ∷ ls)
        → TellTruly ls old.given → TellTruly (record { old = old; event = event; new = new } ∷ ls) new.given
    given_more settings baseline ls old (Acted act answer) new step p was =
        given_still _ ls old.given new.given step.given was
    given_more settings baseline ls old (Reported worker which exchange answer) new step p was =
        given_still _ ls old.given new.given step.given was
    given_more settings baseline ls old (Lost worker answer) new step p was =
        given_still _ ls old.given new.given step.given was
    given_more settings baseline ls old (Stepped id did) new step p was =
        given_still _ ls old.given new.given step.1.given was
    given_more settings baseline ls old (Killed id code) new step p was =
        given_still _ ls old.given new.given step.1.given was
    given_more settings baseline ls old (Served which request files reply) new step p was =
        λ at x here key code tells.
        elim (in_push old.given (record { request = request; reply = reply }) at x
        (sym (ap (λ (g : List Exchange). slice_get g at) step.given) ∙ here)) [
          | inl before ↦ ended_more _ ls key code (was at x before key code tells)
          | inr now ↦
              let law : LinkLaws _ (runtime_part ls) = runtime_links baseline _ (runtime_part ls) p.runtime in
              let its : TellsExit request.call reply.answer key code =
              subst (λ (y : Exchange). TellsExit y.request.call y.reply.answer key code) now tells in
              let found : _ = law.told_is_true request.call files reply.answer key code refl its in
              record { cell = found.0; seen = (_, inl refl, found.1); killed = found.2.0; ended = found.2.1 }
        ]

    pub given_truly : (settings : Settings) (baseline : Option (List Insn)) (ls : List WorldLink)
        → IsWorldRun settings baseline ls → TellTruly ls (world_now settings baseline ls).given
    given_truly settings baseline [] run = λ which x here key code tells. absurd cc
    given_truly settings baseline (l ∷ ls) run =
        given_more settings baseline ls l.old l.event l.new run.1 (parts settings baseline (l ∷ ls) run)
        (subst (λ (w : WorldState). TellTruly ls w.given) (sym run.0)
        (given_truly settings baseline ls run.2))

    ends_still : (l : WorldLink) (ls : List WorldLink) → EndTruly ls
        → (uid : List ℕ) (c : Claimed) (reply : Reply) → Happened (Ends uid c) (node_part ls)
        → c.outcome ≡ outcome.Replied reply
        → (key : Key) (code : ℕ) → TellsExit c.request.call reply.answer key code
        → EndedWith (l ∷ ls) key code
    ends_still l ls was uid c reply h is key code tells =
        ended_more l ls key code (was uid c reply h is key code tells)

    ends_more : (settings : Settings) (ls : List WorldLink) (old : WorldState) (event : Event)
        (new : WorldState) → WorldStep old event new
        → ((worker : ℕ) (uid another : List ℕ) (request its : Request) → Holds old.node worker uid request
        → Holds old.node worker another its → request ≡ its)
        → TellTruly ls old.given → EndTruly ls
        → EndTruly (record { old = old; event = event; new = new } ∷ ls)
    ends_more settings ls old (Served which request files answer) new step one truly was = λ uid c reply h.
        ends_still _ ls was uid c reply h
    ends_more settings ls old (Stepped id did) new step one truly was = λ uid c reply h.
        ends_still _ ls was uid c reply h
    ends_more settings ls old (Killed id code) new step one truly was = λ uid c reply h.
        ends_still _ ls was uid c reply h
    ends_more settings ls old (Acted act answer) new step one truly was = λ uid c reply h is key code tells.
        elim h [
          | inr before ↦ ends_still _ ls was uid c reply before is key code tells
          | inl now ↦ absurd (acts_end_none act now.worker reply
              (subst (EndsBy (agent_event act) now.worker) is now.told))
        ]
    ends_more settings ls old (Lost worker answer) new step one truly was = λ uid c reply h is key code tells.
        elim h [
          | inr before ↦ ends_still _ ls was uid c reply before is key code tells
          | inl now ↦ let differ : outcome.Lost ≡ outcome.Replied reply = now.told.1 ∙ is in absurd cc
        ]
    ends_more settings ls old (Reported worker which exchange answer) new step one truly was =
        λ uid c reply h is key code tells.
        elim h [
          | inr before ↦ ends_still _ ls was uid c reply before is key code tells
          | inl now ↦
              let held : Holds old.node worker uid c.request =
              subst (λ (w : ℕ). Holds old.node w uid c.request) (sym now.told.0) now.held in
              let request_is : c.request ≡ exchange.request =
              one worker uid step.uid c.request exchange.request held step.held in
              let both : outcome.Replied exchange.reply ≡ outcome.Replied reply = now.told.1 ∙ is in
              let reply_is : exchange.reply ≡ reply = cc in
              let its : TellsExit exchange.request.call exchange.reply.answer key code =
              subst (λ (r : Reply). TellsExit exchange.request.call r.answer key code) (sym reply_is)
              (subst (λ (r : Request). TellsExit r.call reply.answer key code) request_is tells) in
              ended_more _ ls key code (truly which exchange step.was_given key code its)
        ]

    pub ends_truly : (settings : Settings) (baseline : Option (List Insn)) (ls : List WorldLink)
        → IsWorldRun settings baseline ls → EndTruly ls
    ends_truly settings baseline [] run = λ uid c reply h. absurd h
    ends_truly settings baseline (l ∷ ls) run =
        let p : Parts settings baseline ls = parts settings baseline ls run.2 in
        let laws : NodeLaws settings (node_part ls) = node_laws settings (node_part ls) p.node in
        let node_is : _ = p.node_is ∙ sym (ap (λ (w : WorldState). w.node) run.0) in
        ends_more settings ls l.old l.event l.new run.1
        (λ worker uid another request its h k.
        (laws.one_pod worker uid another request its
        (subst (λ (n : NodeState). Holds n worker uid request) (sym node_is) h)
        (subst (λ (n : NodeState). Holds n worker another its) (sym node_is) k)).1)
        (subst (λ (w : WorldState). TellTruly ls w.given) (sym run.0)
        (given_truly settings baseline ls run.2))
        (ends_truly settings baseline ls run.2)
