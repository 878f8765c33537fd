-- The data kept of a runtime, and what it represents: this project's own.
use Rattle.std.specs.Prelude.{◌≡◌, ◌≢◌, ◌==◌, ◌<◌, ◌≤◌, ⊤, IsSome, ℕ, IsTrue, false, String, string_bytes}
use Rattle.std.specs.Prelude.{map, option_map, length, slice_index_or, List, [], ◌∷◌, ◌++◌, Option, Some}
use Rattle.std.specs.Prelude.{None}
use Rattle.std.specs.BTreeSet.{insert_key}
use Rattle.std.specs.Map.{lookup}
use Rattle.std.specs.Str.{bytes_eq}
use Rattle.manifest.specs.Texts.{is_label}
use Rattle.runtime_cell.specs.declared.cell.Did.{Did}
use Rattle.runtime_cell.specs.Cell.{Cell, Steps, killed}
use Rattle.cri_msgs.specs.Order.{container_cmp}
use Rattle.cri_msgs.specs.declared.keys.ContainerMetadata.{ContainerMetadata}
use Rattle.registry.specs.declared.stage.Stage.{Stage}
use Rattle.registry.specs.declared.stage.Stage.TheVariants as stage
use Rattle.registry.specs.declared.known.Known.{Known}
use Rattle.registry.specs.declared.known.Known.TheVariants as known
use Rattle.registry.specs.Runtime.{In, id_of}

-- each cell has a container's name
abbrev pub AreNamed : List Cell → Type 0
AreNamed [] = ⊤
AreNamed (cell ∷ cells) = IsTrue (is_label cell.making.label.name) × AreNamed cells

-- no cell of the list has the id
abbrev pub HasNoneIn : List Cell → ℕ → Type 0
HasNoneIn cells id = (cell : Cell) → In cell cells → id_of cell ≢ id

-- the cell at the place has the id
abbrev pub IsAtPlace : List Cell → ℕ → ℕ → Type 0
IsAtPlace cells at id = (other : Cell) → (at < length cells) × (id_of (slice_index_or cells at other) ≡ id)

-- the cell of the list with the id becomes another one
pub record MovesIn (old : List Cell) (id : ℕ) (Moves : Cell → Cell → Type 0) (new : List Cell) : Type 0 where
  pub front : List Cell
  pub cell : Cell
  pub later : Cell
  pub back : List Cell
  pub stands : old ≡ front ++ cell ∷ back
  pub is : id_of cell ≡ id
  pub moves : Moves cell later
  pub comes : new ≡ front ++ later ∷ back

abbrev pub MayStepIn : List Cell → ℕ → Option Did → List Cell → Type 0
MayStepIn old id None new = HasNoneIn old id × (new ≡ old)
MayStepIn old id (Some did) new = MovesIn old id (λ cell later. Steps cell did later) new

abbrev pub MayKillIn : {A : Type 0} → List Cell → ℕ → ℕ → Option A → List Cell → Type 0
MayKillIn old id code None new = HasNoneIn old id × (new ≡ old)
MayKillIn old id code (Some _) new = MovesIn old id (λ cell later. later ≡ killed code cell) new

abbrev pub ReadsIn : List Cell → ℕ → Option Cell → Type 0
ReadsIn cells id None = HasNoneIn cells id
ReadsIn cells id (Some cell) = In cell cells × (id_of cell ≡ id)

-- the entries of a map, by the bytes of their texts
abbrev pub by_bytes : {Y X : Type 0} → List (String Y × X) → List (List ℕ × X)
by_bytes entries = map (λ e. (string_bytes e.0, e.1)) entries

abbrev pub as_bytes : {K Y : Type 0} → List (K × String Y) → List (K × List ℕ)
as_bytes entries = map (λ e. (e.0, string_bytes e.1)) entries

-- the uid of the sandbox in which the cell with the id is
abbrev pub home_in : List (ℕ × List ℕ) → ℕ → Option (List ℕ)
home_in homes id = lookup (λ i. id == i) homes

-- the least id above a number that is at home somewhere
abbrev pub IsNextIn : {A : Type 0} → (ℕ → Option A) → ℕ → Option ℕ → Type 0
IsNextIn home above None = (id : ℕ) → above < id → home id ≡ None
IsNextIn home above (Some id) = (above < id) × IsSome (home id)
    × ((i : ℕ) → above < i → IsSome (home i) → id ≤ i)

-- what is known of a uid that was named
abbrev pub known_in : List (List ℕ × Known) → List ℕ → Option Known
known_in entries uid = lookup (bytes_eq uid) entries

abbrev pub stopped : Known → Known
stopped (known.Live live) = known.Live (record { ready = false; used = live.used })
stopped known.Removed = known.Removed

abbrev pub dead : Known → Known
dead k = known.Removed

abbrev pub with_used : ContainerMetadata → Known → Known
with_used container (known.Live live) =
    known.Live (record { ready = live.ready; used = insert_key container_cmp live.used container })
with_used container known.Removed = known.Removed

abbrev pub stage_of : Option Known → Stage
stage_of None = stage.Unknown
stage_of (Some (known.Live live)) = stage.Live live.ready
stage_of (Some known.Removed) = stage.Removed

-- only what is known of the uid is changed, if it was named
pub record Changes (old new : List (List ℕ × Known)) (uid : List ℕ) (f : Known → Known) : Type 0 where
  pub here : known_in new uid ≡ option_map f (known_in old uid)
  pub others : (u : List ℕ) → u ≢ uid → known_in new u ≡ known_in old u
