-- What a runtime is, this project's own, over the names of CRI v1: docs/SEMANTICS.md, "The runtime".
use Rattle.std.specs.Prelude.{◌≡◌, ◌⊎◌, ◌==◌, ⊤, ℕ, ◌≤◌, ◌&&◌, Bool, true, false, if◌then◌else◌, List, []}
use Rattle.std.specs.Prelude.{◌∷◌, length, Option, Some, None}
use Rattle.std.specs.List.{list_any, find}
use Rattle.std.specs.Str.{bytes_eq}
use Rattle.bpf_code.specs.declared.insn.Insn.{Insn}
use Rattle.cri_msgs.specs.declared.keys.ContainerMetadata.{ContainerMetadata}
use Rattle.cri_msgs.specs.declared.keys.Key.{Key}
use Rattle.runtime_cell.specs.declared.label.Label.{Label}
use Rattle.runtime_cell.specs.Cell.{Cell}
use Rattle.registry.specs.declared.stage.Stage.{Stage}
use Rattle.registry.specs.declared.stage.Stage.TheVariants.{Unknown, Live, Removed}

-- what is known of a uid
pub record Sandbox : Type 0 where
  pub stage : Stage
  -- the existing cells, in the order in which they were made
  pub cells : List Cell
  -- the attempts that were ever made
  pub used : List ContainerMetadata

pub record Runtime : Type 0 where
  -- the node's own filter
  pub baseline : Option (List Insn)
  -- how many cells were made so far, which is the last one's id
  pub made : ℕ
  pub sandbox : List ℕ → Sandbox

-- an attempt at a container of a sandbox: it was never made, its cell exists, or its cell was removed
pub data Slot : Type 0 where
  Free : Slot
  There : Cell → Slot
  Gone : Slot

abbrev pub is_same : ContainerMetadata → ContainerMetadata → Bool
is_same a b = bytes_eq a.name b.name && (a.attempt == b.attempt)

abbrev pub container_of : Label → ContainerMetadata
container_of label = record { name = label.name; attempt = label.attempt }

abbrev pub container_in : Cell → ContainerMetadata
container_in cell = container_of cell.making.label

abbrev pub id_of : Cell → ℕ
id_of cell = cell.making.label.id

abbrev pub is_of : ContainerMetadata → Cell → Bool
is_of container cell = is_same container (container_in cell)

abbrev pub slot_by : Option Cell → Bool → Slot
slot_by (Some cell) used = There cell
slot_by None true = Gone
slot_by None false = Free

abbrev pub slot_at : Stage → Sandbox → ContainerMetadata → Slot
slot_at Unknown s container = Free
slot_at (Live ready) s container = slot_by (find (is_of container) s.cells)
    (list_any (is_same container) s.used)
slot_at Removed s container = Gone

abbrev pub slot_in : Sandbox → ContainerMetadata → Slot
slot_in s container = slot_at s.stage s container

abbrev pub slot_of : Runtime → Key → Slot
slot_of r key = slot_in (r.sandbox key.uid) key.container

-- no sandbox, and none any more
abbrev pub absent : Sandbox
absent = record { stage = Unknown; cells = []; used = [] }

abbrev pub removed : Sandbox
removed = record { stage = Removed; cells = []; used = [] }

abbrev pub fresh_sandbox : Sandbox
fresh_sandbox = record { stage = Live true; cells = []; used = [] }

-- a runtime that knows no uid
abbrev pub empty : Option (List Insn) → Runtime
empty baseline = record { baseline = baseline; made = 0; sandbox = λ _. absent }

abbrev pub IsKnown : Stage → Type 0
IsKnown Unknown = ⊥
IsKnown (Live ready) = ⊤
IsKnown Removed = ⊤

abbrev pub In : {A : Type 0} → A → List A → Type 0
In x [] = ⊥
In x (y ∷ ys) = (x ≡ y) ⊎ In x ys

abbrev pub AreDistinct : {A : Type 0} → List A → Type 0
AreDistinct [] = ⊤
AreDistinct (x ∷ xs) = (¬ In x xs) × AreDistinct xs

-- at least this many different ones have the property
pub record AtLeast {A : Type 0} (count : ℕ) (Has : A → Type 0) : Type 0 where
  pub some : List A
  pub enough : count ≤ length some
  pub distinct : AreDistinct some
  pub each : (x : A) → In x some → Has x

-- the first one that passes, changed
abbrev pub change_first : {A : Type 0} → (A → Bool) → (A → A) → List A → List A
change_first test f [] = []
change_first test f (x ∷ xs) = if test x then f x ∷ xs else x ∷ change_first test f xs

-- the others, without the first one that passes
abbrev pub drop_first : {A : Type 0} → (A → Bool) → List A → List A
drop_first test [] = []
drop_first test (x ∷ xs) = if test x then xs else x ∷ drop_first test xs
