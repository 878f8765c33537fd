-- What a token knows, and the rule that all tokens keep: this project's own.
use Rattle.std.specs.Prelude.{◌≡◌, ◌⊎◌, ⊤, ℕ, ◌+◌, ◌≤◌, ◌==◌, not, filter, if◌then◌else◌, List, [], ◌∷◌}
use Rattle.std.specs.Prelude.{Option, Some, None}
use Rattle.std.specs.Str.{bytes_eq}
use mathlib.Core.Option.{some}
use lib.ListN.{get_elem?}
use Rattle.atomic_table.specs.Seated.{TableId}
use Rattle.atomic_table.specs.Table.{Me}
use Rattle.bpf_code.specs.declared.insn.Insn.{Insn}
use Rattle.runtime_cell.specs.declared.cell.State.TheVariants.{Running}
use Rattle.runtime_cell.specs.Cell.{Cell}
use Rattle.registry.specs.declared.registry.Registry.{Registry}
use Rattle.registry.specs.Kept.{HasNoneIn, home_in}
use Rattle.registry.specs.Runtime.{In, IsKnown, Runtime, id_of}
use Rattle.registry.specs.Stands.{Agrees, AreBound, runtime_of, stages_in}
use Rattle.runtime_laws.specs.Runs.{IsRun, Link, now}
use Rattle.runtime_history.specs.declared.event.Event.{Event}
use Rattle.runtime_history.specs.declared.event.Seen.{Seen}
use Rattle.runtime_history.specs.declared.room.View.{View}
use Rattle.runtime_history.specs.History.{GoesOn, Grows, IsRunning, Looks, Tell, unseen}
use Rattle.runtime_history.specs.Sandboxes.{IsLive}

-- the name of no table
abbrev pub no_table : TableId
no_table = record {
  words = 0;
  slots = 0;
  views_name = 0;
  atom = 0;
  block = 0;
  offset = 0;
  slot_names = [];
}

abbrev pub view : Option (Registry × List ℕ) → Option (List ℕ × List Cell) → Seen → View
view registry cells seen = record { registry = registry; cells = cells; seen = seen }

abbrev pub nobody : View
nobody = view None None unseen

-- the registry's token, with the ids of the cells that were started and may still run
abbrev pub keeper : Registry → List ℕ → View
keeper r started = view (Some (r, started)) None unseen

-- the token of a sandbox's cells
abbrev pub holder : List ℕ → List Cell → View
holder uid cells = view None (Some (uid, cells)) unseen

-- a caller's token, and what it knows while it has the other tokens' parts
abbrev pub reader : Seen → View
reader seen = view None None seen

abbrev pub with_registry : View → View → View
with_registry v u = view u.registry v.cells v.seen

abbrev pub without_registry : View → View
without_registry v = view None v.cells v.seen

abbrev pub registry_of : View → View
registry_of v = view v.registry None unseen

abbrev pub with_cells : View → View → View
with_cells v u = view v.registry u.cells v.seen

abbrev pub without_cells : View → View
without_cells v = view v.registry None v.seen

abbrev pub cells_of : View → View
cells_of v = view None v.cells unseen

abbrev pub seeing : View → Seen → View
seeing v seen = view v.registry v.cells seen

-- the uid of the sandbox whose cells are known
abbrev pub uid_by : Option (List ℕ × List Cell) → List ℕ
uid_by None = []
uid_by (Some held) = held.0

-- the ids of started cells that are known beside the registry
abbrev pub started_in : Option (Registry × List ℕ) → List ℕ
started_in None = []
started_in (Some held) = held.1

-- with the cell that a call started, and without one that is over
abbrev pub with_started : Option ℕ → List ℕ → List ℕ
with_started None ids = ids
with_started (Some id) ids = id ∷ ids

abbrev pub without : ℕ → List ℕ → List ℕ
without id ids = filter (λ i. not (id == i)) ids

abbrev pub forgetting : ℕ → Option (Registry × List ℕ) → Option (Registry × List ℕ)
forgetting id None = None
forgetting id (Some held) = Some (held.0, without id held.1)

-- the cell with the id is in this sandbox, which exists
pub record IsHome (registry : Registry) (id : ℕ) (uid : List ℕ) : Type 0 where
  pub home : home_in registry.homes id ≡ Some uid
  pub live : IsLive (stages_in registry uid)

-- the cell with the id is there and may run, as far as is known under the registry's lock
abbrev pub MayRun : Registry → List ℕ → ℕ → Type 0
MayRun registry started id = In id started × ((uid : List ℕ) × IsHome registry id uid)

abbrev pub MayRunIn : Option (Registry × List ℕ) → ℕ → Type 0
MayRunIn None id = ⊤
MayRunIn (Some held) id = MayRun held.0 held.1 id

-- no cell with the id runs: the one among these cells does not, it is gone, or it would be one of these
abbrev pub IsOver : Registry → List ℕ → List Cell → ℕ → Type 0
IsOver registry uid cells id = ((cell : Cell) × In cell cells × (id_of cell ≡ id)
    × (cell.state ≡ Running → ⊥))
    ⊎ ((home_in registry.homes id ≡ None) ⊎ ((home_in registry.homes id ≡ Some uid) × HasNoneIn cells id))

-- how many times a part is known
abbrev pub once : {A : Type 0} → Option A → ℕ
once None = 0
once (Some _) = 1

abbrev pub once_of : List ℕ → Option (List ℕ × List Cell) → ℕ
once_of uid None = 0
once_of uid (Some held) = if bytes_eq uid held.0 then 1 else 0

abbrev pub registries_in : View → ℕ
registries_in v = once v.registry

abbrev pub lists_in : List ℕ → View → ℕ
lists_in uid v = once_of uid v.cells

abbrev pub total : (View → ℕ) → List View → ℕ
total f [] = 0
total f (v ∷ vs) = f v + total f vs

-- the cells of each sandbox
abbrev pub cells_in : Runtime → List ℕ → List Cell
cells_in s uid = (s.sandbox uid).cells

-- The runtime is the registry and the cells, which agree with it.
pub record HasRegistry (s : Runtime) (r : Registry) : Type 0 where
  pub whole : s ≡ runtime_of r (cells_in s)
  pub bound : AreBound r
  pub agrees : (uid : List ℕ) → Agrees r uid (cells_in s uid)

-- The uid was named, and these are the cells of its sandbox; none if that is removed.
pub record HasCells (s : Runtime) (uid : List ℕ) (cells : List Cell) : Type 0 where
  pub are : cells_in s uid ≡ cells
  pub known : IsKnown (s.sandbox uid).stage

-- each cell that runs is one of these
abbrev pub AreStarted : Runtime → List ℕ → Type 0
AreStarted s ids = (id : ℕ) → IsRunning s id → In id ids

abbrev pub IfRegistry : Runtime → Option (Registry × List ℕ) → Type 0
IfRegistry s None = ⊤
IfRegistry s (Some held) = HasRegistry s held.0 × AreStarted s held.1

abbrev pub IfCells : Runtime → Option (List ℕ × List Cell) → Type 0
IfCells s None = ⊤
IfCells s (Some held) = HasCells s held.0 held.1

-- a view is true of the runtime and of the history
pub record Fits (s : Runtime) (log : List Event) (v : View) : Type 0 where
  pub registry : IfRegistry s v.registry
  pub cells : IfCells s v.cells
  pub seen : GoesOn v.seen.all log

-- There is one history, a run that led to the runtime. No part of the runtime is known twice, and what each
-- token knows is true.
pub record Kept (baseline : Option (List Insn)) (views : List View) : Type 0 where
  pub log : List Event
  pub links : List Link
  pub run : IsRun baseline links
  pub tell : Tell links log
  pub registries : total registries_in views ≤ 1
  pub lists : (uid : List ℕ) → total (lists_in uid) views ≤ 1
  pub each : (by : ℕ) (v : View) → get_elem? views by ≡ some v → Fits (now baseline links) log v

-- the event was added to the history, all of which was seen then
pub record HasAdded (baseline : Option (List Insn)) (event : Event) (after : View) (me me' : Me (Unit {0}) View)
    : Type 0 where
  pub knows : me'.0 ≡ seeing after me'.0.seen
  pub grows : Grows baseline me.0.seen event me'.0.seen
  pub holds : me'.1 ≡ me.1

-- all of the history was seen, and nothing added
pub record Looked (baseline : Option (List Insn)) (Holds : ℕ → Type 0) (me me' : Me (Unit {0}) View)
    : Type 0 where
  pub knows : me'.0 ≡ seeing me.0 me'.0.seen
  pub looks : Looks baseline me.0.seen Holds me'.0.seen
  pub holds : me'.1 ≡ me.1
