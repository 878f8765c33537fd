-- The world of one node: its agent, its runtime, and every message between them. This project's own.
-- docs/SEMANTICS.md, "The world".
use Rattle.std.specs.Prelude.{◌≡◌, ⊤, ℕ, List, [], ◌∷◌, ◌++◌, Option, Some, None, slice_get}
use Rattle.bpf_code.specs.declared.insn.Insn.{Insn}
use Rattle.cri_msgs.specs.declared.calls.Request.{Request}
use Rattle.cri_msgs.specs.declared.replies.Reply.{Reply}
use Rattle.runtime_cell.specs.declared.cell.Did.{Did}
use Rattle.creation.specs.declared.files.FileAnswers.{FileAnswers}
use Rattle.runtime_laws.specs.Runs.{Link}
use Rattle.runtime_laws.specs.Runs.{Event as cells}
use Rattle.registry.specs.Runtime.{Runtime, empty}
use Rattle.registry.specs.Serves.{Serves}
use Rattle.runtime_core.specs.Steps.{MayKill, MayStep}
use Rattle.worker_pod.specs.declared.settings.Settings.{Settings}
use Rattle.worker_core.specs.declared.answers.Answer.{Answer}
use Rattle.worker_core.specs.declared.answers.Answer.TheVariants.{Done, Claimed, Nothing, Refused}
use Rattle.worker_core.specs.declared.events.AgentEvent.{AgentEvent}
use Rattle.worker_core.specs.declared.events.AgentEvent.TheVariants as agent
use Rattle.worker_core.specs.declared.events.Reported.TheVariants as told
use Rattle.worker_core.specs.Laws.{Holds, NodeLink}
use Rattle.worker_core.specs.Nodes.{NodeState, NodeStep, empty_node}
use Rattle.world.specs.declared.events.Act.{Act}
use Rattle.world.specs.declared.events.Act.TheVariants.{Admit, Delete, Claim, Tick, Abandon}
use Rattle.world.specs.declared.events.WorldEvent.{WorldEvent}
use Rattle.world.specs.declared.events.WorldEvent.TheVariants as event
use Rattle.world.specs.declared.exchanges.Exchange.{Exchange}

pub record WorldState : Type 0 where
  pub node : NodeState
  pub runtime : Runtime
  -- the bag: all requests ever sent, and all replies ever given, each with its request
  pub sent : List Request
  pub given : List Exchange

-- no pod was admitted, nothing was sent, and no container was made
abbrev pub empty_world : Settings → Option (List Insn) → WorldState
empty_world settings baseline = record {
  node = empty_node settings;
  runtime = empty baseline;
  sent = [];
  given = [];
}

-- What happened, and its result:
--   the agent acted by itself, and answered;
--   the request at this place of the bag was served, with these results of its files, and was answered;
--   the worker reported the reply at this place of the bag, or that none came;
--   the cell of this id did a step, or was ended by this code.
pub data Event : Type 0 where
  Acted : Act → Answer → Event
  Served : ℕ → Request → FileAnswers → Reply → Event
  Reported : ℕ → ℕ → Exchange → Answer → Event
  Lost : ℕ → Answer → Event
  Stepped : ℕ → Did → Event
  Killed : ℕ → ℕ → Event

-- the event without its result
abbrev pub event_of : Event → WorldEvent
event_of (Acted act answer) = event.Agent act
event_of (Served which request files reply) = event.Serve which files
event_of (Reported worker which exchange answer) = event.Report worker which
event_of (Lost worker answer) = event.Lose worker
event_of (Stepped id did) = event.StepCell id
event_of (Killed id code) = event.KillCell id code

-- the agent's own acts are all of its events but reports
abbrev pub agent_event : Act → AgentEvent
agent_event (Admit pod) = agent.Admit pod
agent_event (Delete uid) = agent.Delete uid
agent_event (Claim worker) = agent.Claim worker
agent_event (Tick now) = agent.Tick now
agent_event (Abandon worker) = agent.Abandon worker

-- a request that a worker is given is sent
abbrev pub sent_by : Answer → List Request
sent_by (Claimed uid number request) = request ∷ []
sent_by Done = []
sent_by Nothing = []
sent_by (Refused refusal) = []

pub record Acts (old : WorldState) (act : Act) (answer : Answer) (new : WorldState) : Type 0 where
  pub node : NodeStep old.node (agent_event act) answer new.node
  pub sent : new.sent ≡ old.sent ++ sent_by answer
  pub runtime : new.runtime ≡ old.runtime
  pub given : new.given ≡ old.given

-- any request of the bag may be served, again and in any order
pub record Serving (old : WorldState) (which : ℕ) (request : Request) (files : FileAnswers) (reply : Reply)
    (new : WorldState) : Type 0 where
  pub was_sent : slice_get old.sent which ≡ Some request
  pub runtime : Serves old.runtime request.call files reply.answer new.runtime
  pub number : reply.id ≡ request.id
  pub given : new.given ≡ old.given ++ record { request = request; reply = reply } ∷ []
  pub node : new.node ≡ old.node
  pub sent : new.sent ≡ old.sent

-- any reply that was ever given to the request that the worker holds may be reported
pub record Reporting (old : WorldState) (worker which : ℕ) (exchange : Exchange) (answer : Answer)
    (new : WorldState) : Type 0 where
  pub was_given : slice_get old.given which ≡ Some exchange
  pub uid : List ℕ
  pub held : Holds old.node worker uid exchange.request
  pub node : NodeStep old.node (agent.Report worker (told.Replied exchange.reply)) answer new.node
  pub runtime : new.runtime ≡ old.runtime
  pub sent : new.sent ≡ old.sent
  pub given : new.given ≡ old.given

-- a request or its reply may be lost at any time
pub record Losing (old : WorldState) (worker : ℕ) (answer : Answer) (new : WorldState) : Type 0 where
  pub node : NodeStep old.node (agent.Report worker told.Lost) answer new.node
  pub runtime : new.runtime ≡ old.runtime
  pub sent : new.sent ≡ old.sent
  pub given : new.given ≡ old.given

-- an event of a cell changes nothing else
pub record AtCell (old new : WorldState) : Type 0 where
  pub node : new.node ≡ old.node
  pub sent : new.sent ≡ old.sent
  pub given : new.given ≡ old.given

abbrev pub WorldStep : WorldState → Event → WorldState → Type 0
WorldStep old (Acted act answer) new = Acts old act answer new
WorldStep old (Served which request files reply) new = Serving old which request files reply new
WorldStep old (Reported worker which exchange answer) new = Reporting old worker which exchange answer new
WorldStep old (Lost worker answer) new = Losing old worker answer new
WorldStep old (Stepped id did) new = MayStep old.runtime id (Some did) new.runtime × AtCell old new
WorldStep old (Killed id code) new = MayKill old.runtime id code (Some (tt {0})) new.runtime × AtCell old new

-- the world before, what happened, and the world after
pub record WorldLink : Type 0 where
  pub old : WorldState
  pub event : Event
  pub new : WorldState

abbrev pub world_now : Settings → Option (List Insn) → List WorldLink → WorldState
world_now settings baseline [] = empty_world settings baseline
world_now settings baseline (l ∷ ls) = l.new

-- a run is a list of links, the newest first, from the empty world on
abbrev pub IsWorldRun : Settings → Option (List Insn) → List WorldLink → Type 0
IsWorldRun settings baseline [] = ⊤
IsWorldRun settings baseline (l ∷ ls) = (l.old ≡ world_now settings baseline ls)
    × WorldStep l.old l.event l.new × IsWorldRun settings baseline ls

-- the node's part of it, if any
abbrev pub node_event : NodeState → Event → NodeState → Option NodeLink
node_event old (Acted act answer) new =
    Some (record { old = old; event = agent_event act; answer = answer; new = new })
node_event old (Served which request files reply) new = None
node_event old (Reported worker which exchange answer) new =
    Some (record {
      old = old;
      event = agent.Report worker (told.Replied exchange.reply);
      answer = answer;
      new = new;
    })
node_event old (Lost worker answer) new =
    Some (record { old = old; event = agent.Report worker told.Lost; answer = answer; new = new })
node_event old (Stepped id did) new = None
node_event old (Killed id code) new = None

-- and the runtime's part
abbrev pub runtime_event : Runtime → Event → Runtime → Option Link
runtime_event old (Acted act answer) new = None
runtime_event old (Served which request files reply) new =
    Some (record { old = old; event = cells.Served request.call files reply.answer; new = new })
runtime_event old (Reported worker which exchange answer) new = None
runtime_event old (Lost worker answer) new = None
runtime_event old (Stepped id did) new =
    Some (record { old = old; event = cells.Stepped id (Some did); new = new })
runtime_event old (Killed id code) new =
    Some (record { old = old; event = cells.Killed id code (Some (tt {0})); new = new })

abbrev pub node_link : WorldLink → Option NodeLink
node_link l = node_event l.old.node l.event l.new.node

abbrev pub runtime_link : WorldLink → Option Link
runtime_link l = runtime_event l.old.runtime l.event l.new.runtime

abbrev pub behind : {A : Type 0} → Option A → List A → List A
behind None xs = xs
behind (Some x) xs = x ∷ xs

-- of a whole run
abbrev pub node_part : List WorldLink → List NodeLink
node_part [] = []
node_part (l ∷ ls) = behind (node_link l) (node_part ls)

abbrev pub runtime_part : List WorldLink → List Link
runtime_part [] = []
runtime_part (l ∷ ls) = behind (runtime_link l) (runtime_part ls)
