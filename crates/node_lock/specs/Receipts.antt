-- Receipts for the entries of a history, and tallies of them: this project's own. docs/SEMANTICS.md, "The
-- agent: the history of a node".
use Rattle.std.specs.Prelude.{◌≡◌, ℕ, ◌-◌, ◌<◌, List, Some, slice_get}
use Rattle.node_lock.specs.declared.entries.Entry.{Entry}

-- a receipt: the number of its entry, from 1 over all parts of the history, and the entry
pub record Received : Type 0 where
  pub number : ℕ
  pub entry : Entry

-- the entry is at its number in the part of the history after this many entries
abbrev pub Stands : ℕ → List Entry → Received → Type 0
Stands before history receipt = (before < receipt.number)
    × (slice_get history (receipt.number - before - 1) ≡ Some receipt.entry)

-- a tally: how many parts of the count its share has, and the receipts that it counts
pub record Tallied : Type 0 where
  pub parts : ℕ
  pub receipts : List Received
