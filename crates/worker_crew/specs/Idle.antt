-- What worker 0 has to do when the workers have nothing to do: this project's own. docs/SEMANTICS.md, "The
-- agent: workers".
use Rattle.std.specs.Prelude.{◌≡◌, ◌⊎◌, ℕ, ◌-◌, ◌^◌, ◌<◌, ◌≤◌, true, false, Option, Some, None}
use Rattle.std.specs.Prelude.{if◌then◌else◌, nat_lt}
use Rattle.lifecycle.specs.BackOff.{later}
use Rattle.worker_core.specs.declared.events.AgentEvent.TheVariants.{Claim}
use Rattle.worker_core.specs.Slots.{held_in, is_settled}
use Rattle.worker_core.specs.Turns.{soonest}
use Rattle.node_lock.specs.Books.{Books, last_number, needed}
use Rattle.worker_crew.specs.declared.idle.IdleReason.{IdleReason}
use Rattle.worker_crew.specs.declared.idle.IdleReason.TheVariants as idle
use Rattle.worker_crew.specs.declared.pace.Ended.TheVariants as ended
use Rattle.worker_crew.specs.declared.pace.Next.{Next}
use Rattle.worker_crew.specs.declared.pace.Next.TheVariants as next
use Rattle.worker_crew.specs.declared.shared.TheConstants.{MAX_AT_MOMENT}

-- the moment from which a request is due for a pod that nobody holds
abbrev pub due_in : Books → Option ℕ
due_in book = soonest book.node.moment book.node.slots

-- the part of the history has room for a claim and its end
abbrev pub HasRoom : Books → Type 0
HasRoom book = needed book (Claim 1) ≤ book.limit

-- each pod is Succeeded or Failed, and none has to leave
abbrev pub IsOver : Books → Type 0
IsOver book = (due_in book ≡ None) × (is_settled book.node.slots ≡ true)

-- there are workers, and none of them holds a pod
abbrev pub IsIdle : Books → ℕ → Type 0
IsIdle book workers = (0 < workers) × (held_in book.node.slots ≡ 0)

-- a worker holds a pod, or can claim one at this moment
abbrev pub IsBusy : Books → ℕ → ℕ → Type 0
IsBusy book workers now = (0 < workers) × ((0 < held_in book.node.slots)
    ⊎ (HasRoom book × ((due : ℕ) × (due_in book ≡ Some due) × (due ≤ now))))

-- What stops the node at this moment; none if the workers have something to do. Each case excludes the
-- others.
abbrev pub Stands : Books → ℕ → ℕ → Option IdleReason → Type 0
Stands book workers now None = IsBusy book workers now
Stands book workers now (Some idle.Deserted) = workers ≡ 0
Stands book workers now (Some idle.Over) = IsIdle book workers × IsOver book
Stands book workers now (Some idle.Full) = IsIdle book workers × (IsOver book → ⊥) × (HasRoom book → ⊥)
Stands book workers now (Some (idle.At due)) = IsIdle book workers × HasRoom book
    × (due_in book ≡ Some due) × (now < due)
Stands book workers now (Some idle.Never) = IsIdle book workers × HasRoom book × (due_in book ≡ None)
    × (is_settled book.node.slots ≡ false)
Stands book workers now (Some idle.Endless) = ⊥

-- how many entries came after the last one that advanced the time
abbrev pub entries_since : Books → ℕ → ℕ
entries_since book ticked = last_number book - ticked

-- the same by the virtual clock: a moment with too many entries counts as endless
abbrev pub StandsByCount : Books → ℕ → ℕ → ℕ → Option IdleReason → Type 0
StandsByCount book workers ticked now None = IsBusy book workers now
    × (entries_since book ticked ≤ MAX_AT_MOMENT)
StandsByCount book workers ticked now (Some idle.Endless) = IsBusy book workers now
    × (MAX_AT_MOMENT < entries_since book ticked)
StandsByCount book workers ticked now found = Stands book workers now found

-- when to read the machine's clock again, if nothing changes before: in a second, if workers have something
-- to do
abbrev pub next_look : Option IdleReason → ℕ → ℕ
next_look None now = later now 1
next_look (Some (idle.At due)) now = due
next_look (Some found) now = 2 ^ 64 - 1

-- what the virtual clock does next
abbrev pub next_of : Option IdleReason → ℕ → Next
next_of None until = next.Nothing
next_of (Some idle.Over) until = next.End ended.Settled
next_of (Some idle.Never) until = next.End ended.TimeUp
next_of (Some idle.Endless) until = next.End ended.Endless
next_of (Some idle.Full) until = next.End ended.HistoryFull
next_of (Some idle.Deserted) until = next.Stuck
next_of (Some (idle.At due)) until = if nat_lt until due then next.End ended.TimeUp else next.To due
