-- What a registry and the lists of cells represent: this project's own.
use Rattle.std.specs.Prelude.{◌≡◌, ◌≢◌, ◌↔◌, ◌<◌, ◌≤◌, ⊤, ℕ, List, [], ◌∷◌, ◌==◌, if◌then◌else◌, option_map}
use Rattle.std.specs.Prelude.{map, Option, Some, None}
use Rattle.cri_msgs.specs.declared.keys.ContainerMetadata.{ContainerMetadata}
use Rattle.runtime_cell.specs.Cell.{Cell}
use Rattle.registry.specs.declared.known.Known.{Known}
use Rattle.registry.specs.declared.known.Known.TheVariants as known
use Rattle.registry.specs.declared.registry.Registry.{Registry}
use Rattle.registry.specs.declared.stage.Stage.{Stage}
use Rattle.registry.specs.declared.stage.Stage.TheVariants as stage
use Rattle.registry.specs.Kept.{home_in, known_in, stage_of, with_used}
use Rattle.registry.specs.Runtime.{In, Runtime, Sandbox, id_of}
use Rattle.registry.specs.Serves.{Around, Part}

abbrev pub cells_of : Option Known → List Cell → List Cell
cells_of None cells = []
cells_of (Some (known.Live live)) cells = cells
cells_of (Some known.Removed) cells = []

abbrev pub used_of : Option Known → List ContainerMetadata
used_of None = []
used_of (Some (known.Live live)) = live.used
used_of (Some known.Removed) = []

-- the sandbox of what is known of a uid, with the list of its cells
abbrev pub sandbox_of : Option Known → List Cell → Sandbox
sandbox_of k cells = record { stage = stage_of k; cells = cells_of k cells; used = used_of k }

abbrev pub part_by : ℕ → Option Known → List Cell → Part
part_by made k cells = record { made = made; sandbox = sandbox_of k cells }

-- what a call sees of a registry, with the list of the uid's cells
abbrev pub part_in : Registry → List ℕ → List Cell → Part
part_in r uid cells = part_by r.made (known_in r.uids uid) cells

abbrev pub stages_in : Registry → List ℕ → Stage
stages_in r uid = stage_of (known_in r.uids uid)

abbrev pub around_in : Registry → Around
around_in r = record { baseline = r.baseline; stages = stages_in r }

-- the runtime of a registry and the lists of all uids
abbrev pub runtime_of : Registry → (List ℕ → List Cell) → Runtime
runtime_of r cells = record {
  baseline = r.baseline;
  made = r.made;
  sandbox = λ uid.
      sandbox_of (known_in r.uids uid) (cells uid);
}

-- ids rise, from above a number
abbrev pub RiseAbove : ℕ → List ℕ → Type 0
RiseAbove low [] = ⊤
RiseAbove low (id ∷ ids) = (low < id) × RiseAbove id ids

abbrev pub IsEmptyIn : Stage → List Cell → Type 0
IsEmptyIn stage.Unknown cells = cells ≡ []
IsEmptyIn (stage.Live ready) cells = ⊤
IsEmptyIn stage.Removed cells = cells ≡ []

-- no id is above the number of cells that were made
abbrev pub AreBound : Registry → Type 0
AreBound r = (id : ℕ) (uid : List ℕ) → home_in r.homes id ≡ Some uid → id ≤ r.made

-- the registry's ids of the uid are those of its list, in rising order; without a sandbox there are no cells
pub record Agrees (r : Registry) (uid : List ℕ) (cells : List Cell) : Type 0 where
  pub home : (id : ℕ) → (home_in r.homes id ≡ Some uid) ↔ In id (map id_of cells)
  pub rise : RiseAbove 0 (map id_of cells)
  pub empty : IsEmptyIn (stages_in r uid) cells

-- the registry is unchanged for every other uid
pub record Spares (old new : Registry) (uid : List ℕ) (before : List Cell) : Type 0 where
  pub known : (u : List ℕ) → u ≢ uid → known_in new.uids u ≡ known_in old.uids u
  pub home : AreBound old → Agrees old uid before → (u : List ℕ) → u ≢ uid → (id : ℕ)
      → (home_in new.homes id ≡ Some u) ↔ (home_in old.homes id ≡ Some u)
  pub baseline : new.baseline ≡ old.baseline
  pub made : old.made ≤ new.made

-- what agreed still agrees
pub record Keeps (old new : Registry) (uid : List ℕ) (before behind : List Cell) : Type 0 where
  pub bound : AreBound old → AreBound new
  pub agrees : AreBound old → Agrees old uid before → Agrees new uid behind

-- the id is at home at the uid, the attempt was made in its sandbox, and the id is the last one
pub record IsPlaced (old new : Registry) (uid : List ℕ) (container : ContainerMetadata)
    (id : ℕ) : Type 0 where
  pub here : known_in new.uids uid ≡ option_map (with_used container) (known_in old.uids uid)
  pub others : (u : List ℕ) → u ≢ uid → known_in new.uids u ≡ known_in old.uids u
  pub home : (i : ℕ) → home_in new.homes i ≡ (if id == i then Some uid else home_in old.homes i)
  pub made : new.made ≡ id
  pub baseline : new.baseline ≡ old.baseline

-- nothing has changed
pub record IsUnplaced (old new : Registry) : Type 0 where
  pub known : (u : List ℕ) → known_in new.uids u ≡ known_in old.uids u
  pub home : AreBound old → (i : ℕ) → home_in new.homes i ≡ home_in old.homes i
  pub made : new.made ≡ old.made
  pub baseline : new.baseline ≡ old.baseline
