-- Events that take memory are not those by which a worker gives up.
use Rattle.std.proofs.Common.{◌≡◌, true, false, refl}
use Rattle.worker_core.specs.declared.events.AgentEvent.{AgentEvent}
use Rattle.worker_core.specs.declared.events.AgentEvent.TheVariants.{Admit, Delete, Claim, Report, Tick}
use Rattle.worker_core.specs.declared.events.AgentEvent.TheVariants.{Abandon}
use Rattle.worker_core.specs.Kept.{KeptNode, gives_request, takes_memory}
use Rattle.node_lock.specs.Rooms.{gives_up, is_abandon, room_for}

pub asking : (event : AgentEvent) → gives_request event ≡ true → is_abandon event ≡ false
asking (Admit pod) asks = refl
asking (Delete uid) asks = refl
asking (Claim worker) asks = refl
asking (Report worker reported) asks = refl
asking (Tick now) asks = refl
asking (Abandon worker) asks = absurd cc

pub growing : (kept : KeptNode) (event : AgentEvent) → takes_memory kept event ≡ true
    → is_abandon event ≡ false
growing kept (Admit pod) grows = refl
growing kept (Delete uid) grows = refl
growing kept (Claim worker) grows = refl
growing kept (Report worker reported) grows = refl
growing kept (Tick now) grows = refl
growing kept (Abandon worker) grows = absurd cc

-- the end of a held claim has its room already
pub giving_up : (kept : KeptNode) (event : AgentEvent) → gives_up kept event ≡ true
    → (is_abandon event ≡ true) × (room_for kept event ≡ 0)
giving_up kept (Admit pod) gives = absurd cc
giving_up kept (Delete uid) gives = absurd cc
giving_up kept (Claim worker) gives = absurd cc
giving_up kept (Report worker reported) gives = absurd cc
giving_up kept (Tick now) gives = absurd cc
giving_up kept (Abandon worker) gives = (refl, rw gives refl)
