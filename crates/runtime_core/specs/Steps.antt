-- What happens to a cell by its id, this project's own: docs/SEMANTICS.md, "The runtime".
use Rattle.std.specs.Prelude.{◌≡◌, ◌≢◌, ◌<◌, ◌≤◌, ℕ, List, ◌∷◌, ◌++◌, Option, Some, None}
use Rattle.runtime_cell.specs.declared.cell.Did.{Did}
use Rattle.runtime_cell.specs.Cell.{Cell, Steps, killed}
use Rattle.registry.specs.Runtime.{In, Runtime, id_of}
use Rattle.registry.specs.Serves.{with_cells}

-- no cell has the id
abbrev pub HasNone : Runtime → ℕ → Type 0
HasNone r id = (uid : List ℕ) (cell : Cell) → In cell (r.sandbox uid).cells → id_of cell ≢ id

-- a cell has the id
abbrev pub HasOne : Runtime → ℕ → Type 0
HasOne r id = (uid : List ℕ) × (cell : Cell) × In cell (r.sandbox uid).cells × (id_of cell ≡ id)

-- the least id above a number that a cell has
abbrev pub IsNext : Runtime → ℕ → Option ℕ → Type 0
IsNext r above None = (id : ℕ) → above < id → HasNone r id
IsNext r above (Some id) = (above < id) × HasOne r id × ((i : ℕ) → above < i → HasOne r i → id ≤ i)

-- the cell with the id becomes another one, and nothing else changes
pub record MovesCell (old : Runtime) (id : ℕ) (Moves : Cell → Cell → Type 0) (new : Runtime) : Type 0 where
  pub uid : List ℕ
  pub front : List Cell
  pub cell : Cell
  pub later : Cell
  pub back : List Cell
  pub stands : (old.sandbox uid).cells ≡ front ++ cell ∷ back
  pub is : id_of cell ≡ id
  pub moves : Moves cell later
  pub sandbox : new.sandbox uid ≡ with_cells (old.sandbox uid) (front ++ later ∷ back)
  pub others : (u : List ℕ) → u ≢ uid → new.sandbox u ≡ old.sandbox u
  pub made : new.made ≡ old.made
  pub baseline : new.baseline ≡ old.baseline

-- a step of the cell with the id, and its result; if no cell has the id nothing changes
abbrev pub MayStep : Runtime → ℕ → Option Did → Runtime → Type 0
MayStep old id None new = HasNone old id × (new ≡ old)
MayStep old id (Some did) new = MovesCell old id (λ cell later. Steps cell did later) new

-- the end of the cell with the id, with the code
abbrev pub MayKill : {A : Type 0} → Runtime → ℕ → ℕ → Option A → Runtime → Type 0
MayKill old id code None new = HasNone old id × (new ≡ old)
MayKill old id code (Some _) new = MovesCell old id (λ cell later. later ≡ killed code cell) new

-- the cell with the id
abbrev pub Reads : Runtime → ℕ → Option Cell → Type 0
Reads r id None = HasNone r id
Reads r id (Some cell) = (uid : List ℕ) × In cell (r.sandbox uid).cells × (id_of cell ≡ id)
