-- What a program keeps of a world, and why an event can't happen in it: this project's own.
-- docs/SEMANTICS.md, "The world".
use Rattle.std.specs.Prelude.{◌≡◌, ◌⊎◌, ⊤, ℕ, List, Option, Some, None, slice_get}
use Rattle.bpf_code.specs.declared.insn.Insn.{Insn}
use Rattle.cri_msgs.specs.declared.calls.Request.{Request}
use Rattle.cri_msgs.specs.declared.replies.Reply.{Reply}
use Rattle.runtime_core.specs.Stands.{Held, stands_for}
use Rattle.runtime_core.specs.Steps.{HasNone}
use Rattle.worker_pod.specs.declared.settings.Settings.{Settings}
use Rattle.worker_core.specs.Kept.{KeptNode}
use Rattle.worker_core.specs.Nodes.{StandsFor as NodeStandsFor}
use Rattle.worker_core.specs.Slots.{claim_of}
use Rattle.world.specs.declared.events.Act.{Act}
use Rattle.world.specs.declared.events.Act.TheVariants.{Admit, Delete, Claim, Tick, Abandon}
use Rattle.world.specs.declared.events.WorldEvent.{WorldEvent}
use Rattle.world.specs.declared.events.WorldEvent.TheVariants.{Agent, Serve, Report, Lose, StepCell, KillCell}
use Rattle.world.specs.declared.exchanges.Exchange.{Exchange}
use Rattle.world.specs.declared.faults.WorldFault.{WorldFault}
use Rattle.world.specs.declared.faults.WorldFault.TheVariants.{NoSuchRequest, NoSuchReply, NoSuchCell, Memory}
use Rattle.world.specs.World.{Event, IsWorldRun, WorldState, WorldStep, WorldLink, event_of, world_now}

pub record KeptWorld : Type 0 where
  pub node : KeptNode
  pub runtime : Held
  pub sent : List Request
  pub given : List Exchange

pub record StandsFor (kept : KeptWorld) (world : WorldState) : Type 0 where
  pub node : NodeStandsFor kept.node world.node
  pub runtime : stands_for kept.runtime ≡ world.runtime
  pub sent : kept.sent ≡ world.sent
  pub given : kept.given ≡ world.given

-- the event happens, and leads to a world that this state stands for
pub record Comes (old : WorldState) (event : WorldEvent) (kept : KeptWorld) : Type 0 where
  pub happened : Event
  pub is : event_of happened ≡ event
  pub new : WorldState
  pub step : WorldStep old happened new
  pub stands : StandsFor kept new

-- the kept state stands for the end of some run
pub record IsReached (kept : KeptWorld) : Type 0 where
  pub settings : Settings
  pub baseline : Option (List Insn)
  pub links : List WorldLink
  pub run : IsWorldRun settings baseline links
  pub stands : StandsFor kept (world_now settings baseline links)

-- the reply at this place of the bag was given to this request
pub record WasGiven (given : List Exchange) (which : ℕ) (claim : Option Request)
    (reply : Reply) : Type 0 where
  pub exchange : Exchange
  pub here : slice_get given which ≡ Some exchange
  pub its_request : claim ≡ Some exchange.request
  pub its_reply : reply ≡ exchange.reply

abbrev pub LacksReply : List Exchange → ℕ → Option Request → WorldFault → Type 0
LacksReply given which claim fault = ((fault ≡ NoSuchReply)
    × ((reply : Reply) → ¬ WasGiven given which claim reply))
    ⊎ ((fault ≡ Memory) × ((reply : Reply) × WasGiven given which claim reply))

abbrev pub LacksRequest : List Request → ℕ → WorldFault → Type 0
LacksRequest sent which fault = ((fault ≡ NoSuchRequest) × (slice_get sent which ≡ None))
    ⊎ ((fault ≡ Memory) × ((request : Request) × (slice_get sent which ≡ Some request)))

-- of the agent's own acts, only a claim takes memory of the bag
abbrev pub IsClaim : Act → Type 0
IsClaim (Claim worker) = ⊤
IsClaim (Admit pod) = ⊥
IsClaim (Delete uid) = ⊥
IsClaim (Tick now) = ⊥
IsClaim (Abandon worker) = ⊥

-- why an event can't happen: out of memory is reported only for one that otherwise could
abbrev pub IsCause : KeptWorld → WorldEvent → WorldFault → Type 0
IsCause kept (Agent act) fault = (fault ≡ Memory) × IsClaim act
IsCause kept (Serve which files) fault = LacksRequest kept.sent which fault
IsCause kept (Report worker which) fault = LacksReply kept.given which (claim_of worker kept.node.slots) fault
IsCause kept (Lose worker) fault = ⊥
IsCause kept (StepCell id) fault = (fault ≡ NoSuchCell) × HasNone (stands_for kept.runtime) id
IsCause kept (KillCell id code) fault = (fault ≡ NoSuchCell) × HasNone (stands_for kept.runtime) id
