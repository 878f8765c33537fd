-- What the sightings of calls say of one call: this project's own, docs/SEMANTICS.md, "Learned profiles".
use Rattle.std.specs.Prelude.{ℕ, ◌==◌, Bool, not, ◌&&◌, if◌then◌else◌, List, [], ◌∷◌, filter_map, length}
use Rattle.std.specs.Prelude.{nat_le, is_some, Option, None}
use Rattle.std.specs.List.{list_any}
use Rattle.profile_learn.specs.declared.sighting.Sighting.{Sighting}
use Rattle.profile_learn.specs.Small.{small_argument}

-- the call was seen
abbrev pub is_seen : List Sighting → ℕ → Bool
is_seen history nr = list_any (λ s. s.number == nr) history

-- the value of the call's small argument, if the sighting is one of the call and has the value
abbrev pub value_in : ℕ → Sighting → Option ℕ
value_in nr s = if s.number == nr then s.value else None

-- the values that were seen of the call's small argument
abbrev pub values_seen : List Sighting → ℕ → List ℕ
values_seen history nr = filter_map (value_in nr) history

abbrev pub is_among : List ℕ → ℕ → Bool
is_among values value = list_any (λ v. v == value) values

-- the call was seen with this value
abbrev pub has_value : List Sighting → ℕ → ℕ → Bool
has_value history nr value = is_among (values_seen history nr) value

-- the call was seen without a value
abbrev pub lacks_value : ℕ → Sighting → Bool
lacks_value nr s = s.number == nr && not (is_some s.value)

abbrev pub is_unclear : List Sighting → ℕ → Bool
is_unclear history nr = list_any (lacks_value nr) history

-- each value once
abbrev pub distinct : List ℕ → List ℕ
distinct [] = []
distinct (v ∷ vs) = if is_among vs v then distinct vs else v ∷ distinct vs

-- each value of the call's small argument is known, and there are four at most
abbrev pub is_narrow : List Sighting → ℕ → Bool
is_narrow history nr = is_some (small_argument nr) && (not (is_unclear history nr)
    && nat_le (length (distinct (values_seen history nr))) 4)
