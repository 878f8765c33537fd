-- What the kept data of a runtime represents: this project's own.
use Rattle.std.specs.Prelude.{◌≡◌, ℕ, List, [], IsSome, unwrap_or, map, Option, Some, None}
use Rattle.std.specs.Map.{lookup}
use Rattle.std.specs.Str.{bytes_eq}
use Rattle.cri_msgs.specs.declared.calls.Call.{Call}
use Rattle.cri_msgs.specs.declared.replies.Answer.{Answer}
use Rattle.cri_msgs.specs.Calls.{uid_of}
use Rattle.runtime_cell.specs.Cell.{Cell}
use Rattle.creation.specs.declared.files.FileAnswers.{FileAnswers}
use Rattle.registry.specs.declared.registry.Registry.{Registry}
use Rattle.registry.specs.declared.stage.Stage.{Stage}
use Rattle.registry.specs.declared.stage.Stage.TheVariants as stage
use Rattle.registry.specs.Runtime.{Runtime, id_of}
use Rattle.registry.specs.Serves.{ServesIn}
use Rattle.registry.specs.Stands.{Agrees, AreBound, Keeps, Spares, around_in, part_in, runtime_of, stages_in}

-- the kept data: a registry, and the list of each existing sandbox
pub record Held : Type 0 where
  pub registry : Registry
  pub lists : List (List ℕ × List Cell)

abbrev pub list_in : List (List ℕ × List Cell) → List ℕ → Option (List Cell)
list_in lists uid = lookup (bytes_eq uid) lists

abbrev pub cells_in : List (List ℕ × List Cell) → List ℕ → List Cell
cells_in lists uid = unwrap_or (list_in lists uid) []

abbrev pub ids_in : List (List ℕ × List Cell) → List ℕ → List ℕ
ids_in lists uid = map id_of (cells_in lists uid)

abbrev pub IsListFor : Stage → Option (List Cell) → Type 0
IsListFor stage.Unknown l = l ≡ None
IsListFor (stage.Live ready) l = IsSome l
IsListFor stage.Removed l = l ≡ None

-- registry and lists agree on every uid, and there is a list exactly for each existing sandbox
pub record IsWhole (registry : Registry) (lists : List (List ℕ × List Cell)) : Type 0 where
  pub bound : AreBound registry
  pub agrees : (uid : List ℕ) → Agrees registry uid (cells_in lists uid)
  pub listed : (uid : List ℕ) → IsListFor (stages_in registry uid) (list_in lists uid)

-- a request is served with the list of its uid, or with an empty one; the list may change, and is there as
-- long as it was
pub record LendsTo (old new : Registry) (call : Call) (files : FileAnswers) (answer : Answer)
    (before behind : List Cell) : Type 0 where
  pub row : ServesIn (around_in old) call files (part_in old (uid_of call) before) answer
      (part_in new (uid_of call) behind)
  pub spares : Spares old new (uid_of call) before
  pub keeps : Keeps old new (uid_of call) before behind

abbrev pub Lends : Registry → Registry → Call → FileAnswers → Answer → Option (List Cell) → Option (List Cell)
    → Type 0
Lends old new call files answer None behind = (behind ≡ None)
    × ((cells : List Cell) × LendsTo old new call files answer [] cells)
Lends old new call files answer (Some before) None = ⊥
Lends old new call files answer (Some before) (Some behind) = LendsTo old new call files answer before behind

-- the runtime that the kept data represents
abbrev pub stands_for : Held → Runtime
stands_for held = runtime_of held.registry (cells_in held.lists)
