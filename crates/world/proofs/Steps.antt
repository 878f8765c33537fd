-- What the contracts of the agent and the runtime state of a call is a step of the world.
use Rattle.std.proofs.Common.{◌≡◌, inl, inr, ℕ, nat_lt, Bool, true, false, if◌then◌else◌, List, [], ◌∷◌, ◌++◌}
use Rattle.std.proofs.Common.{Option, Some, None, slice_get, append-nil, refl, sym, ◌∙◌, ap, subst}
use Rattle.cri_msgs.specs.declared.calls.Request.{Request}
use Rattle.cri_msgs.specs.declared.replies.Reply.{Reply}
use Rattle.runtime_cell.specs.declared.cell.Did.{Did}
use Rattle.runtime_cell.specs.Cell.{Cell}
use Rattle.creation.specs.declared.files.FileAnswers.{FileAnswers}
use Rattle.registry.specs.Runtime.{Runtime}
use Rattle.registry.specs.Serves.{Serves}
use Rattle.runtime_core.specs.Stands.{stands_for}
use Rattle.runtime_core.specs.Steps.{MayKill, MayStep, Reads}
use Rattle.worker_core.specs.declared.answers.Answer.{Answer}
use Rattle.worker_core.specs.declared.answers.Answer.TheVariants.{Done, Refused}
use Rattle.worker_core.specs.declared.answers.NodeRefusal.{NodeRefusal}
use Rattle.worker_core.specs.declared.answers.NodeRefusal.TheVariants.{ClockBack}
use Rattle.worker_core.specs.declared.events.AgentEvent.{AgentEvent}
use Rattle.worker_core.specs.declared.events.AgentEvent.TheVariants as agent
use Rattle.worker_core.specs.declared.events.Reported.TheVariants as told
use Rattle.worker_core.specs.Kept.{KeptNode, KeptStep, admit_answer, answer_of, delete_answer, end_answer}
use Rattle.worker_core.specs.Kept.{refusal_of}
use Rattle.worker_core.specs.Laws.{Holds, IsClaimOf}
use Rattle.worker_core.specs.Nodes.{NodeState, NodeStep}
use Rattle.worker_core.specs.Slots.{holder_of, place_of}
use Rattle.worker_core.specs.Nodes.{Comes as NodeComes}
use Rattle.worker_core.specs.Nodes.{StandsFor as NodeStandsFor}
use Rattle.world.specs.declared.events.Act.{Act}
use Rattle.world.specs.declared.events.Act.TheVariants.{Admit, Delete, Claim, Tick, Abandon}
use Rattle.world.specs.declared.events.WorldEvent.{WorldEvent}
use Rattle.world.specs.declared.events.WorldEvent.TheVariants.{Agent, Serve, Report, Lose, StepCell, KillCell}
use Rattle.world.specs.declared.exchanges.Exchange.{Exchange}
use Rattle.world.specs.Kept.{Comes, IsClaim, IsReached, KeptWorld, StandsFor, WasGiven}
use Rattle.world.specs.World.{WorldState, agent_event, sent_by, world_now}
use Rattle.world.specs.World.Event.{Acted, Served, Reported, Lost, Stepped, Killed}

-- the result of a step is reached
pub reached_more : (old new : KeptWorld) (event : WorldEvent)
    → ((world : WorldState) → StandsFor old world → Comes world event new) → IsReached old → IsReached new
reached_more old new event comes r =
    let now : WorldState = world_now r.settings r.baseline r.links in
    let c : Comes now event new = comes now r.stands in
    record {
      settings = r.settings;
      baseline = r.baseline;
      links =
          record { old = now; event = c.happened; new = c.new } ∷ r.links;
      run = (refl, c.step, r.run);
      stands =
          c.stands;
    }

module _ (old new : KeptWorld) where
  pub acts : (act : Act) (event : AgentEvent) (answer : Answer) → event ≡ agent_event act
      → ((node : NodeState) → NodeStandsFor old.node node → NodeComes node event answer new.node)
      → new.runtime ≡ old.runtime → new.sent ≡ old.sent ++ sent_by answer → new.given ≡ old.given
      → (world : WorldState) → StandsFor old world → Comes world (Agent act) new
  acts act event answer is steps runtime sent given world s =
      let c : NodeComes world.node (agent_event act) answer new.node =
      subst (λ (e : AgentEvent). NodeComes world.node e answer new.node) is (steps world.node s.node) in
      record {
        happened = Acted act answer;
        is = refl;
        new = record {
          node = c.new;
          runtime = world.runtime;
          sent = world.sent ++ sent_by answer;
          given =
              world.given;
        };
        step = record { node = c.step; sent = refl; runtime = refl; given = refl };
        stands = record {
          node = c.stands;
          runtime = ap stands_for runtime ∙ s.runtime;
          sent = sent ∙ ap (λ (x : List Request). x ++ sent_by answer) s.sent;
          given = given ∙ s.given;
        };
      }

  pub serves : (which : ℕ) (request : Request) (files : FileAnswers) (reply : Reply)
      → slice_get old.sent which ≡ Some request → reply.id ≡ request.id
      → Serves (stands_for old.runtime) request.call files reply.answer (stands_for new.runtime)
      → new.node ≡ old.node → new.sent ≡ old.sent
      → new.given ≡ old.given ++ record { request = request; reply = reply } ∷ []
      → (world : WorldState) → StandsFor old world → Comes world (Serve which files) new
  serves which request files reply here number serving node sent given world s = record {
    happened = Served which request files reply;
    is = refl;
    new = record {
      node = world.node;
      runtime = stands_for new.runtime;
      sent = world.sent;
      given =
          world.given ++ record { request = request; reply = reply } ∷ [];
    };
    step = record {
      was_sent = ap (λ (x : List Request). slice_get x which) (sym s.sent) ∙ here;
      runtime = subst (λ (r : Runtime). Serves r request.call files reply.answer (stands_for new.runtime))
          s.runtime serving;
      number = number;
      given = refl;
      node = refl;
      sent = refl;
    };
    stands = record {
      node = subst (λ (n : KeptNode). NodeStandsFor n world.node) (sym node) s.node;
      runtime = refl;
      sent = sent ∙ s.sent;
      given = given ∙ ap (λ (x : List Exchange). x ++ record { request = request; reply = reply } ∷ [])
          s.given;
    };
  }

  pub reports : (worker which : ℕ) (claim : Option Request) (reply : Reply) (answer : Answer)
      → WasGiven old.given which claim reply
      → ((node : NodeState) → NodeStandsFor old.node node → IsClaimOf node worker claim)
      → ((node : NodeState) → NodeStandsFor old.node node
      → NodeComes node (agent.Report worker (told.Replied reply)) answer new.node)
      → new.runtime ≡ old.runtime → new.sent ≡ old.sent → new.given ≡ old.given
      → (world : WorldState) → StandsFor old world → Comes world (Report worker which) new
  reports worker which claim reply answer was holds steps runtime sent given world s =
      let c : NodeComes world.node (agent.Report worker (told.Replied reply)) answer new.node =
      steps world.node s.node in
      let held : (uid : List ℕ) × Holds world.node worker uid was.exchange.request =
      subst (IsClaimOf world.node worker) was.its_request (holds world.node s.node) in
      record {
        happened = Reported worker which was.exchange answer;
        is = refl;
        new = record { node = c.new; runtime = world.runtime; sent = world.sent; given = world.given };
        step = record {
          was_given = ap (λ (x : List Exchange). slice_get x which) (sym s.given) ∙ was.here;
          uid = held.0;
          held = held.1;
          node = subst (λ (r : Reply). NodeStep world.node (agent.Report worker (told.Replied r)) answer
              c.new) was.its_reply c.step;
          runtime = refl;
          sent = refl;
          given = refl;
        };
        stands = record {
          node = c.stands;
          runtime = ap stands_for runtime ∙ s.runtime;
          sent = sent ∙ s.sent;
          given = given ∙ s.given;
        };
      }

  pub loses : (worker : ℕ) (answer : Answer)
      → ((node : NodeState) → NodeStandsFor old.node node
      → NodeComes node (agent.Report worker told.Lost) answer new.node)
      → new.runtime ≡ old.runtime → new.sent ≡ old.sent → new.given ≡ old.given
      → (world : WorldState) → StandsFor old world → Comes world (Lose worker) new
  loses worker answer steps runtime sent given world s =
      let c : NodeComes world.node (agent.Report worker told.Lost) answer new.node =
      steps world.node s.node in
      record {
        happened = Lost worker answer;
        is = refl;
        new = record { node = c.new; runtime = world.runtime; sent = world.sent; given = world.given };
        step = record { node = c.step; runtime = refl; sent = refl; given = refl };
        stands = record {
          node = c.stands;
          runtime = ap stands_for runtime ∙ s.runtime;
          sent = sent ∙ s.sent;
          given = given ∙ s.given;
        };
      }

  pub steps : (id : ℕ) (did : Did) → MayStep (stands_for old.runtime) id (Some did) (stands_for new.runtime)
      → new.node ≡ old.node → new.sent ≡ old.sent → new.given ≡ old.given
      → (world : WorldState) → StandsFor old world → Comes world (StepCell id) new
  steps id did moves node sent given world s = record {
    happened = Stepped id did;
    is = refl;
    new = record {
      node = world.node;
      runtime = stands_for new.runtime;
      sent = world.sent;
      given =
          world.given;
    };
    step = (
      subst (λ (r : Runtime). MayStep r id (Some did) (stands_for new.runtime)) s.runtime moves,
      record { node = refl; sent = refl; given = refl },
    );
    stands = record {
      node = subst (λ (n : KeptNode). NodeStandsFor n world.node) (sym node) s.node;
      runtime =
          refl;
      sent = sent ∙ s.sent;
      given = given ∙ s.given;
    };
  }

  pub kills : (id code : ℕ) → MayKill (stands_for old.runtime) id code (Some (tt {0}))
      (stands_for new.runtime)
      → new.node ≡ old.node → new.sent ≡ old.sent → new.given ≡ old.given
      → (world : WorldState) → StandsFor old world → Comes world (KillCell id code) new
  kills id code moves node sent given world s = record {
    happened = Killed id code;
    is = refl;
    new = record {
      node = world.node;
      runtime = stands_for new.runtime;
      sent = world.sent;
      given =
          world.given;
    };
    step = (
      subst (λ (r : Runtime). MayKill r id code (Some (tt {0})) (stands_for new.runtime)) s.runtime
          moves,
      record { node = refl; sent = refl; given = refl },
    );
    stands = record {
      node = subst (λ (n : KeptNode). NodeStandsFor n world.node) (sym node) s.node;
      runtime =
          refl;
      sent = sent ∙ s.sent;
      given = given ∙ s.given;
    };
  }

-- a cell that is there does a step, and can be ended
pub did_step : (old new : Runtime) (id : ℕ) (cell : Cell) → Reads old id (Some cell) → (did : Option Did)
    → MayStep old id did new → (d : Did) × MayStep old id (Some d) new
did_step old new id cell there None may = absurd (may.0 there.0 cell there.1 there.2)
did_step old new id cell there (Some d) may = (d, may)

pub was_killed : (old new : Runtime) (id code : ℕ) (cell : Cell) → Reads old id (Some cell)
    → (found : Option (Unit {0})) → MayKill old id code found new → MayKill old id code (Some (tt {0})) new
was_killed old new id code cell there None may = absurd (may.0 there.0 cell there.1 there.2)
was_killed old new id code cell there (Some found) may = may

-- anything but a claim sends nothing
sends_none : (kept : KeptNode) (act : Act) → ¬ IsClaim act → sent_by (answer_of kept (agent_event act)) ≡ []
sends_none kept (Admit pod) other = by_refusal (refusal_of kept pod) where
  by_refusal : (r : Option NodeRefusal) → sent_by (admit_answer r) ≡ []
  by_refusal None = refl
  by_refusal (Some refusal) = refl
sends_none kept (Delete uid) other = by_place (place_of uid kept.slots) where
  by_place : (p : Option ℕ) → sent_by (delete_answer p) ≡ []
  by_place None = refl
  by_place (Some place) = refl
sends_none kept (Claim worker) other = absurd (other tt)
sends_none kept (Tick now) other = by_test (nat_lt now kept.moment) where
  by_test : (b : Bool) → sent_by (if b then Refused ClockBack else Done) ≡ []
  by_test true = refl
  by_test false = refl
sends_none kept (Abandon worker) other = by_place (holder_of worker kept.slots) where
  by_place : (p : Option ℕ) → sent_by (end_answer p) ≡ []
  by_place None = refl
  by_place (Some place) = refl

pub stays_sent : (old : KeptNode) (act : Act) (event : AgentEvent) (answer : Answer) (new : KeptNode)
    → event ≡ agent_event act → ¬ IsClaim act → KeptStep old event answer new
    → (sent : List Request) → sent ≡ sent ++ sent_by answer
stays_sent old act event answer new is other step sent =
    let none : sent_by answer ≡ [] =
    elim step [
      | inl due ↦ ap sent_by due.0 ∙ ap (λ (e : AgentEvent). sent_by (answer_of old e)) is
          ∙ sends_none old act other
      | inr lacks ↦ ap sent_by lacks.answer_is
    ] in
    sym (ap (λ (x : List Request). sent ++ x) none ∙ append-nil sent)
