-- A look into a folder, in progress: this project's own. docs/SEMANTICS.md, "Pods of a folder".
use Rattle.std.specs.Prelude.{◌≡◌, ◌⊎◌, ℕ, ◌+◌, ◌-◌, true, false, List, Option, Some, None}
use Rattle.std.specs.Prelude.{Contains, IsPermutation, is_some, length, map, slice_set, take, ⊤}
use Rattle.std.specs.String.{string_bytes}
use Rattle.std.specs.declared.string.String.{String}
use Rattle.node_io.specs.Held.{Held, Tells}
use Rattle.pod_folder.specs.declared.looking.TheConstants.{MAX_FILES}
use Rattle.pod_folder.specs.declared.looks.Manifest.{Manifest}
use Rattle.pod_folder.specs.declared.reading.Reading.{Reading}
use Rattle.pod_folder.specs.declared.reading.Reading.TheVariants.{Pod, Refused}
use Rattle.pod_folder.specs.Looks.{Found}

-- the files of the folder, how many of them were looked at, and how many files are left out
pub record Progress : Type 0 where
  pub files : List Found
  pub next : ℕ
  pub left_out : ℕ

abbrev pub names_of : List Found → List (List ℕ)
names_of files = map (λ f. f.name) files

-- the text of a file is read as this manifest, or refused
abbrev pub ReadsAs : (List ℕ → Manifest → Type 0) → List ℕ → Reading → Type 0
ReadsAs reads bytes (Pod manifest) = reads bytes manifest
ReadsAs reads bytes (Refused line) = ⊤

-- the pod that a file asks for was read in it
abbrev pub IsRead : Option Held → (List ℕ → Manifest → Type 0) → List ℕ → Option Manifest → Type 0
IsRead held reads name None = ⊤
IsRead held reads name (Some manifest) =
    (bytes : List ℕ) × Tells held name (λ found. found ≡ Some bytes) × reads bytes manifest

-- the file is as it was at the last whole look
abbrev pub IsAsBefore : Option Found → Found → Type 0
IsAsBefore None file = ⊥
IsAsBefore (Some known) file = (known.name ≡ file.name) × (is_some file.stamp ≡ true)
    × (known.stamp ≡ file.stamp) × (known.asks ≡ file.asks) × (known.tried ≡ file.tried)

-- the finding on a file: what is known of it, if its state is the same, or what was read
abbrev pub IsFound : Option Held → (List ℕ → Manifest → Type 0) → Option Found → Found → Type 0
IsFound held reads known file = IsAsBefore known file
    ⊎ ((file.tried ≡ false) × IsRead held reads file.name file.asks)

-- a known file is one of those that the last whole look found
abbrev pub IsAmong : List Found → Option Found → Type 0
IsAmong found None = ⊤
IsAmong found (Some known) = Contains found known

-- the file at a place was looked at, and no other
abbrev pub IsLookedAt : Option Held → (List ℕ → Manifest → Type 0) → List Found → Progress → Option Found
    → Progress → Type 0
IsLookedAt held reads found old None new = ⊥
IsLookedAt held reads found old (Some before) new = (file : Found) × (file.name ≡ before.name)
    × ((known : Option Found) × IsAmong found known × IsFound held reads known file)
    × (new ≡ record old { files = slice_set old.files old.next file; next = old.next + 1 })

-- these are the first names in their order, and this many more are left out
abbrev pub AreFirst : {Y : Type 0} → List (String Y) → List (List ℕ) → ℕ → Type 0
AreFirst {Y} names first left_out = (all : List (String Y)) × IsPermutation names all
    × (first ≡ take MAX_FILES (map string_bytes all)) × (left_out ≡ length all - MAX_FILES)
