-- Values under their own labels, and turns of a round, which private functions cite.
use Rattle.std.specs.Prelude.{◌≡◌, ◌==◌, ◌%◌, ◌<◌, ◌≤◌, ℕ, Bool, false, if◌then◌else◌, IsSome, List, map}
use Rattle.std.specs.Prelude.{Option, None, Some, String, string_bytes}
use Rattle.std.specs.Map.{lookup}
use Rattle.std.specs.Str.{bytes_eq}
use Rattle.registry.specs.Kept.{home_in}
use Rattle.registry.specs.Runtime.{In}

-- each value is found under its own label
abbrev pub AreLabelled : {X : Type 0} → (X → List ℕ) → List (List ℕ × X) → Type 0
AreLabelled {X} label entries = (text : List ℕ) (x : X) → lookup (bytes_eq text) entries ≡ Some x
    → label x ≡ text

-- the uids under which values are kept
abbrev pub uids_in : {Y X : Type 0} → List (String Y × X) → List (List ℕ)
uids_in entries = map (λ e. string_bytes e.0) entries

-- the ids of cells, with the uids of their sandboxes
abbrev pub homes_of : {X : Type 0} → (X → List ℕ) → List (ℕ × X) → List (ℕ × List ℕ)
homes_of label entries = map (λ e. (e.0, label e.1)) entries

-- which cells are kept for rounds to visit, and whether one could not be kept
pub record Visited : Type 0 where
  pub homes : List (ℕ × List ℕ)
  pub lacks : Bool

-- what rounds visit: the cells kept for them, or all cells in sandboxes, if one is not kept
abbrev pub visited : List (ℕ × List ℕ) → Visited → List (ℕ × List ℕ)
visited homes due = if due.lacks then homes else due.homes

-- each cell that may run is kept for rounds to visit, unless one could not be kept
abbrev pub AreDue : List ℕ → Visited → Type 0
AreDue started due = due.lacks ≡ false → (id : ℕ) → In id started → IsSome (home_in due.homes id)

-- what is known of the ids of a share: the ids that are `runner` modulo `runners`
abbrev pub of_share : {A : Type 0} → ℕ → ℕ → (ℕ → Option A) → ℕ → Option A
of_share runner runners home id = if id % runners == runner then home id else None

-- no id above the first one and up to the other is of the share
abbrev pub Passed : {A : Type 0} → (ℕ → Option A) → ℕ → ℕ → Type 0
Passed home above last = (above ≤ last) × ((i : ℕ) → above < i → IsSome (home i) → last < i)
