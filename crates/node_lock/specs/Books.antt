-- What a book of a node is, and what it keeps: this project's own. docs/SEMANTICS.md, "The agent: the history
-- of a node".
use Rattle.std.specs.Prelude.{◌≡◌, ℕ, ◌+◌, ◌^◌, ◌≤◌, ◌<◌, Bool, List, length, All}
use Rattle.worker_pod.specs.declared.settings.Settings.{Settings}
use Rattle.worker_core.specs.declared.events.AgentEvent.{AgentEvent}
use Rattle.worker_core.specs.declared.events.AgentEvent.TheVariants.{Admit, Delete, Claim, Report, Tick}
use Rattle.worker_core.specs.declared.events.AgentEvent.TheVariants.{Abandon}
use Rattle.worker_core.specs.Kept.{KeptNode}
use Rattle.worker_core.specs.Slots.{held_in}
use Rattle.node_lock.specs.declared.entries.Entry.{Entry}
use Rattle.node_lock.specs.declared.limits.TheConstants.{MAX_ENTRIES}
use Rattle.node_lock.specs.Histories.{GoesOn}
use Rattle.node_lock.specs.Receipts.{Received, Stands}
use Rattle.node_lock.specs.Rooms.{room_for}

pub record Books : Type 0 where
  pub settings : Settings
  pub node : KeptNode
  -- how many entries the earlier parts of the history had
  pub before : ℕ
  -- the entries of the current part
  pub history : List Entry
  -- all entries of all parts, with those of earlier parts, which are not stored
  pub whole : List Entry
  -- the amount of all shares of the count
  pub total : ℕ
  -- how many entries a part may have
  pub limit : ℕ
  pub closed : Bool

-- how many entries there are after the held claims have ended
abbrev pub used : List Entry → KeptNode → ℕ
used history node = length history + held_in node.slots

-- there are numbers for the entries of one more part
abbrev pub HasNumbers : ℕ → Type 0
HasNumbers before = before + MAX_ENTRIES < 2 ^ 64

-- what a book keeps: the node is where the whole history ends, each entry of the current part is counted, and
-- the limit and the memory have room for the ends of all held claims
pub record IsKept (settings : Settings) (node : KeptNode) (before : ℕ) (history whole : List Entry)
    (total limit capacity : ℕ) : Type 0 where
  pub goes_on : GoesOn settings before history whole node
  pub numbers : HasNumbers before
  pub counted : total ≡ length history
  pub small : limit ≤ MAX_ENTRIES
  pub within : used history node ≤ limit
  pub room : used history node ≤ capacity

-- the number of the last entry, from 1 over all parts
abbrev pub last_number : Books → ℕ
last_number book = book.before + length book.history

-- a part may end: it has entries, no claim is held, the receipts match it, and there are numbers for the next
-- part
pub record MayEnd (book : Books) (receipts : List Received) : Type 0 where
  pub some : 0 < length book.history
  pub free : held_in book.node.slots ≡ 0
  pub audited : All (Stands book.before book.history) receipts
  pub numbers : HasNumbers (last_number book)

-- how many entries there are after this event was taken, and the claims held then have ended
abbrev pub needed : Books → AgentEvent → ℕ
needed book event = used book.history book.node + room_for book.node event

-- the worker of the event: worker 0 admits, deletes and advances the time
abbrev pub worker_of : AgentEvent → ℕ
worker_of (Admit pod) = 0
worker_of (Delete uid) = 0
worker_of (Tick now) = 0
worker_of (Claim worker) = worker
worker_of (Report worker reported) = worker
worker_of (Abandon worker) = worker
