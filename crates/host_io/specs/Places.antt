-- A disk before and after a file is written completely, this project's own: docs/SEMANTICS.md, "Files that
-- are written". A path is its bytes. For a disk with unknown contents these claim nothing.
use Rattle.std.specs.Prelude.{◌≡◌, ◌↔◌, ℕ, ◌<◌, ◌++◌, List, Option, None, Some, IfSome, codes}
use Rattle.std.specs.Fmt.{decimal}
use Rattle.node_io.specs.Held.{Held, Tells}
use Rattle.host_io.specs.declared.whole_file.TheConstants.{NAMES}

-- these are the path's contents, if the disk's contents are known
abbrev pub IsAt : Option Held → List ℕ → Option (List ℕ) → Type 0
IsAt held path value = Tells held path (λ found. found ≡ value)

-- the path keeps its contents
abbrev pub KeepsAt : Option Held → Option Held → List ℕ → Type 0
KeepsAt old new path = (value : Option (List ℕ)) → IsAt old path value ↔ IsAt new path value

-- each path keeps its contents
abbrev pub KeepsAll : Option Held → Option Held → Type 0
KeepsAll old new = (path : List ℕ) → KeepsAt old new path

-- each path but this one keeps its contents
abbrev pub KeepsOthers : List ℕ → Option Held → Option Held → Type 0
KeepsOthers path old new = (other : List ℕ) → (other ≡ path → ⊥) → KeepsAt old new other

-- the n-th name beside a path
abbrev pub name_beside : List ℕ → ℕ → List ℕ
name_beside path n = path ++ (codes ".new" ++ decimal n)

-- the disk after a file was moved from one path to another
pub record Moves (from to : List ℕ) (old new : Option Held) : Type 0 where
  pub moved : (value : Option (List ℕ)) → IsAt old from value → IsAt new to value
  pub gone : (from ≡ to → ⊥) → IsAt new from None
  pub others : (other : List ℕ) → (other ≡ from → ⊥) → (other ≡ to → ⊥) → KeepsAt old new other

-- one free name beside a path was used
pub record IsFree (path name : List ℕ) (old : Option Held) : Type 0 where
  pub number : ℕ
  pub below : number < NAMES
  pub beside : name ≡ name_beside path number
  pub free : IsAt old name None

-- Every other path keeps its contents, except for one free name beside the path, if one was used.
pub record Spares (path : List ℕ) (old new : Option Held) : Type 0 where
  pub used : Option (List ℕ)
  pub free : IfSome used (λ name. IsFree path name old)
  pub others : (other : List ℕ) → (other ≡ path → ⊥) → (used ≡ Some other → ⊥) → KeepsAt old new other
