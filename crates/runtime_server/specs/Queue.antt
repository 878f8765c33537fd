-- The lines that wait for their writer, this project's own: docs/SEMANTICS.md, "Programs".
use Rattle.std.specs.Prelude.{◌≡◌, ◌⊎◌, ◌<◌, ℕ, ◌+◌, ◌==◌, min, ◌&&◌, Bool, List, [], ◌∷◌, ◌++◌, length}
use Rattle.std.specs.Prelude.{Option, Some, None, Result, Ok, Err}

-- a count of 64 bits
abbrev pub capped : ℕ → ℕ
capped count = min count 18446744073709551615

-- whether no line waits, and none was left out
abbrev pub is_none : {A : Type 0} → List A → ℕ → Bool
is_none lines left_out = (length lines == 0) && (left_out == 0)

-- a line is added after the others
abbrev pub IsQueued : {A E : Type 0} → Result A E → List A → ℕ → List A → ℕ → Type 0
IsQueued (Ok line) old before new after = (new ≡ old ++ line ∷ []) × (after ≡ before)
IsQueued (Err fault) old before new after = (new ≡ old) × (after ≡ capped (before + 1))

-- a line is added after the others, if there are fewer than 16,384, or it is left out and counted
abbrev pub Adds : {A E : Type 0} → Result A E → List A → ℕ → List A → ℕ → Type 0
Adds (Ok line) old before new after =
    ((length old < 16384) × ((new ≡ old ++ line ∷ []) × (after ≡ before)))
    ⊎ ((new ≡ old) × (after ≡ capped (before + 1)))
Adds (Err fault) old before new after = (new ≡ old) × (after ≡ capped (before + 1))

-- the first cause stays
abbrev pub first_cause : {A : Type 0} → Option A → Option A → Option A
first_cause None later = later
first_cause (Some cause) later = Some cause
