-- The pods of a folder's files that are on the node, and whose deletion is due: this project's own.
-- docs/SEMANTICS.md, "Pods of a folder".
use Rattle.std.specs.Prelude.{◌≡◌, ◌⊎◌, ℕ, ◌&&◌, not, Bool, true, false, List, Option, Some, None, find}
use Rattle.std.specs.Prelude.{is_some}
use Rattle.std.specs.Prelude.{position, All, ⊤}
use Rattle.std.specs.List.{list_any}
use Rattle.std.specs.Str.{bytes_eq}
use Rattle.pod_folder.specs.declared.looks.Manifest.{Manifest}
use Rattle.pod_folder.specs.Looks.{Found}

-- a file's pod on the node: its uid, its manifest, whether its deletion was recorded, and whether the runtime
-- has lost it
pub record Placed : Type 0 where
  pub name : List ℕ
  pub uid : List ℕ
  pub manifest : Manifest
  pub leaving : Bool
  pub lost : Bool

-- the file of a name, as the last whole look found it
abbrev pub file_of : List ℕ → List Found → Option Found
file_of name found = find (λ f. bytes_eq f.name name) found

-- a file that asks for nothing, because it is refused or can't be read, keeps its pod
abbrev pub AsksForAnother : Option Manifest → Placed → Type 0
AsksForAnother None placed = ⊥
AsksForAnother (Some manifest) placed = manifest.pod ≡ placed.manifest.pod → ⊥

-- the file is gone, or asks for another pod
abbrev pub LeavesBy : Option Found → Placed → Type 0
LeavesBy None placed = ⊤
LeavesBy (Some file) placed = AsksForAnother file.asks placed

-- a pod's deletion is due
abbrev pub Leaves : List Found → Placed → Type 0
Leaves found placed = (placed.leaving ≡ false)
    × ((placed.lost ≡ true) ⊎ LeavesBy (file_of placed.name found) placed)

abbrev pub NoneLeaves : List Found → List Placed → Type 0
NoneLeaves found placed = All (λ p. Leaves found p → ⊥) placed

-- a file whose pod is due for admission: no pod of this file is on the node
abbrev pub comes : List Placed → Found → Bool
comes placed file = not file.tried && is_some file.asks
    && not (list_any (λ p. bytes_eq p.name file.name) placed)

-- the place of the pod of a uid
abbrev pub place_of_pod : List ℕ → List Placed → Option ℕ
place_of_pod uid placed = position (λ p. bytes_eq p.uid uid) placed
