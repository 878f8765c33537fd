-- The file of the uids that an agent must not leave in the runtime: this project's own. docs/SEMANTICS.md,
-- "When one side is started again".
use Rattle.std.specs.Prelude.{◌≡◌, ℕ, List, [], ◌∷◌, ◌++◌, Option, Some, None, codes, ⊤}
use Rattle.std.specs.List.{flat_map}

-- the uids left by a former start, and those admitted since
pub record Kept : Type 0 where
  pub former : List (List ℕ)
  pub own : List (List ℕ)

-- one uid per line
abbrev pub lines_of : List (List ℕ) → List ℕ
lines_of uids = flat_map (λ uid. uid ++ codes "\n") uids

abbrev pub state_text : Kept → List ℕ
state_text kept = lines_of kept.former ++ lines_of kept.own

abbrev pub with_own : Kept → List ℕ → Kept
with_own kept uid = record kept { own = kept.own ++ uid ∷ [] }

-- a store has this text, if its content is known
abbrev pub Stores : Option (List ℕ) → List ℕ → Type 0
Stores None text = ⊤
Stores (Some held) text = held ≡ text
