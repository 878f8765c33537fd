-- Something for each element of a list that is the first of its kind.
use Rattle.std.specs.Prelude.{ℕ, Bool, not, if◌then◌else◌, List, take, filter_map, Option, Some, None}
use Rattle.std.specs.List.{enumerate_from, list_any}

-- an element of its kind stands before this place
abbrev pub came_before : {A : Type 0} → (A → A → Bool) → List A → ℕ → A → Bool
came_before same xs place x = list_any (λ other. same other x) (take place xs)

abbrev pub first_made : {A T : Type 0} → (A → A → Bool) → (ℕ → A → T) → List A → ℕ × A → Option T
first_made same make xs at = if not (came_before same xs at.0 at.1) then Some (make at.0 at.1) else None

-- what is made of each element that has none of its kind before it, in order: so each kind has one
abbrev pub of_firsts : {A T : Type 0} → (A → A → Bool) → (ℕ → A → T) → List A → List T
of_firsts same make xs = filter_map (first_made same make xs) (enumerate_from 0 xs)
