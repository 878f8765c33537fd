-- Places that are free or taken, this project's own: docs/SEMANTICS.md, "Serving a connection".
use Rattle.std.specs.Prelude.{ℕ, Bool, true, false, List, Option, Some, None, position, slice_get}
use Rattle.std.specs.List.{list_all}

abbrev pub is_free : {T : Type 0} → Option T → Bool
is_free None = true
is_free (Some value) = false

abbrev pub are_all_free : {T : Type 0} → List (Option T) → Bool
are_all_free places = list_all is_free places

abbrev pub first_free : {T : Type 0} → List (Option T) → Option ℕ
first_free places = position is_free places

abbrev pub value_of : {T : Type 0} → Option (Option T) → Option T
value_of None = None
value_of (Some place) = place

-- the value at a place; none if the place is free or does not exist
abbrev pub value_at : {T : Type 0} → List (Option T) → ℕ → Option T
value_at places at = value_of (slice_get places at)
