-- The names of a folder's manifests: this project's own. docs/SEMANTICS.md, "Pods of a folder".
use Rattle.std.specs.Prelude.{◌≡◌, ℕ, ◌==◌, ◌&&◌, ◌++◌, not, nat_lt, nat_eq, Bool, if◌then◌else◌, List, []}
use Rattle.std.specs.Prelude.{◌∷◌}
use Rattle.std.specs.Prelude.{codes, length, slice_index, Option, Some, None, Result, Ok, Err, ⊤}
use Rattle.std.specs.List.{ends_with}
use Rattle.std.specs.String.{string_bytes}
use Rattle.node_io.specs.declared.faults.CausedFault.{CausedFault}
use Rattle.pod_folder.specs.declared.names.Entry.{Entry}
use Rattle.pod_folder.specs.declared.names.Entry.TheVariants.{Named, NotText}

-- what a listing has at a place: a name, a name that is not UTF-8, or a fault
abbrev pub Listed : Type 0
Listed = Result (Option (List ℕ)) CausedFault

-- an entry as it is listed
abbrev pub listed : Entry → Option (List ℕ)
listed (Named name) = Some (string_bytes name)
listed NotText = None

-- what a listing returns from its rest, and the rest after that: nothing is left at its end
abbrev pub ReturnsFirst : List Listed → Result (Option Entry) CausedFault → Option (List Listed) → Type 0
ReturnsFirst [] (Ok None) after = after ≡ Some []
ReturnsFirst (Ok name ∷ rest) (Ok (Some entry)) after = (listed entry ≡ name) × (after ≡ Some rest)
ReturnsFirst (Err found ∷ rest) (Err fault) after = (fault ≡ found) × (after ≡ Some rest)
ReturnsFirst left result after = ⊥

abbrev pub ReturnsNext : Option (List Listed) → Result (Option Entry) CausedFault → Option (List Listed)
    → Type 0
ReturnsNext None result after = after ≡ None
ReturnsNext (Some left) result after = ReturnsFirst left result after

-- a manifest's name ends with .json, has something before it, and does not begin with a dot
abbrev pub is_manifest : List ℕ → Bool
is_manifest name = nat_lt 5 (length name) && ends_with nat_eq name (codes ".json")
    && not (slice_index name 0 == 46)

abbrev pub with_name : Option (List ℕ) → List (List ℕ) → List (List ℕ)
with_name None names = names
with_name (Some name) names = if is_manifest name then name ∷ names else names

-- the names of the manifests in a listing, up to the first entry that can't be read
abbrev pub manifests_in : List Listed → List (List ℕ)
manifests_in [] = []
manifests_in (Ok name ∷ rest) = with_name name (manifests_in rest)
manifests_in (Err fault ∷ rest) = []

-- each entry of a listing can be read
abbrev pub AllRead : List Listed → Type 0
AllRead [] = ⊤
AllRead (Ok name ∷ rest) = AllRead rest
AllRead (Err fault ∷ rest) = ⊥

-- these are the names of the manifests of a whole listing, if its entries are known
abbrev pub AreNamesOf : Option (List Listed) → List (List ℕ) → Type 0
AreNamesOf None names = ⊤
AreNamesOf (Some all) names = AllRead all × (names ≡ manifests_in all)

-- these names and those of the rest are the names of the whole listing
abbrev pub AreNamesWith : Option (List Listed) → Option (List Listed) → List (List ℕ) → Type 0
AreNamesWith (Some all) (Some left) names = (AllRead left → AllRead all) × (names ++ manifests_in left
    ≡ manifests_in all)
AreNamesWith None left names = ⊤
AreNamesWith (Some all) None names = ⊥
