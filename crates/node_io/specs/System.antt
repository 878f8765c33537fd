-- The files of the system, this project's own: docs/SEMANTICS.md, "Devices". A path is its bytes.
use Rattle.std.specs.Prelude.{ℕ, ◌==◌, Bool, not, ◌&&◌, if◌then◌else◌, List, ◌++◌, Option, Some, None, codes}
use Rattle.std.specs.Prelude.{length, slice_index}
use Rattle.std.specs.List.{list_any, slice_split}
use Rattle.std.specs.Str.{bytes_eq}

-- the folder that they are all below, if it is not the whole system, and how many failures there were
pub record System : Type 0 where
  pub folder : Option (List ℕ)
  pub failures : ℕ

-- a part between slashes leads to the folder above
unfoldable pub climbs : List ℕ → Bool
climbs path = list_any (λ part. bytes_eq part (codes "..")) (slice_split (λ byte. byte == 47) path)

-- it is not empty, does not begin at the root, and never climbs
abbrev pub descends : List ℕ → Bool
descends path = not (length path == 0) && not (slice_index path 0 == 47) && not (climbs path)

-- the path that is opened; none below a folder with an empty path, or for a path that does not descend
abbrev pub opened_in : Option (List ℕ) → List ℕ → Option (List ℕ)
opened_in None path = Some path
opened_in (Some folder) path = if not (length folder == 0) && descends path
    then Some (folder ++ codes "/" ++ path) else None
