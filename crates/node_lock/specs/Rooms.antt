-- How much room of a history is kept for the held claims: this project's own. docs/SEMANTICS.md, "The agent:
-- the history of a node".
use Rattle.std.specs.Prelude.{ℕ, Bool, true, false, if◌then◌else◌, Option, is_some}
use Rattle.worker_core.specs.Kept.{KeptNode}
use Rattle.worker_core.specs.declared.events.AgentEvent.{AgentEvent}
use Rattle.worker_core.specs.declared.events.AgentEvent.TheVariants.{Claim, Report, Abandon}
use Rattle.worker_core.specs.Slots.{holder_of}

-- the end of a held claim has its entry already
abbrev pub room_to_end : Option ℕ → ℕ
room_to_end holder = if is_some holder then 0 else 1

-- the entries that an event needs, beside one for each held claim
abbrev pub room_for : KeptNode → AgentEvent → ℕ
room_for kept (Claim worker) = 2
room_for kept (Report worker reported) = room_to_end (holder_of worker kept.slots)
room_for kept (Abandon worker) = room_to_end (holder_of worker kept.slots)
room_for kept event = 1

abbrev pub is_abandon : AgentEvent → Bool
is_abandon (Abandon worker) = true
is_abandon event = false

-- a worker gives up the pod that it holds
abbrev pub gives_up : KeptNode → AgentEvent → Bool
gives_up kept (Abandon worker) = is_some (holder_of worker kept.slots)
gives_up kept event = false
