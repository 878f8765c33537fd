-- What is added up of denied calls, this project's own: docs/SEMANTICS.md, "Programs".
use Rattle.std.specs.Prelude.{ℕ, ◌==◌, ◌-◌, ◌^◌, Bool, false, ◌&&◌, if◌then◌else◌, List, min, count_by}
use Rattle.std.specs.Prelude.{slice_get, string_bytes, sum_by, Option, Some, None}
use Rattle.std.specs.List.{list_any}
use Rattle.std.specs.Str.{bytes_eq}
use Rattle.denied_calls.specs.declared.adding.Row.{Row}
use Rattle.denied_calls.specs.declared.totalling.Total.{Total}
use Rattle.denied_calls.specs.declared.sighting.Sighting.{Sighting}
use Rattle.denied_calls.specs.Firsts.{of_firsts}

-- the same number, architecture and verdict
abbrev pub same_kind : Sighting → Sighting → Bool
same_kind a b = a.nr == b.nr && (a.arch == b.arch && (a.value == b.value))

-- the same call, with the same verdict, of the same container
abbrev pub same_call : Sighting → Sighting → Bool
same_call a b = same_kind a b && (bytes_eq (string_bytes a.uid) (string_bytes b.uid)
    && bytes_eq (string_bytes a.name) (string_bytes b.name))

-- how often the call of this sighting was denied: a sum, capped where it leaves 64 bits
abbrev pub part : Sighting → Sighting → ℕ
part sighting other = if same_call other sighting then other.count else 0

abbrev pub counted : List Sighting → Sighting → ℕ
counted sightings sighting = min (sum_by (part sighting) sightings) (2 ^ 64 - 1)

abbrev pub row_of : List Sighting → ℕ → Sighting → Row
row_of sightings place sighting = record { count = record { 0 = counted sightings sighting }; place = place }

-- a row for each place at which a container and its call first come, in order
abbrev pub rows : List Sighting → List Row
rows sightings = of_firsts same_call (row_of sightings) sightings

-- the sighting at this place is of the same container and call
abbrev pub same_here : Option Sighting → Sighting → Bool
same_here None sighting = false
same_here (Some other) sighting = same_call other sighting

abbrev pub same_call_at : List Sighting → ℕ → Sighting → Bool
same_call_at sightings place sighting = same_here (slice_get sightings place) sighting

-- one of the rows is that of the sighting
abbrev pub is_told : List Sighting → Sighting → List Row → Bool
is_told sightings sighting told = list_any (λ row. same_call_at sightings row.place sighting) told

-- how often a call was denied with this verdict, whatever the container
abbrev pub kind_part : Sighting → Sighting → ℕ
kind_part sighting other = if same_kind other sighting then other.count else 0

abbrev pub kind_counted : List Sighting → Sighting → ℕ
kind_counted sightings sighting = min (sum_by (kind_part sighting) sightings) (2 ^ 64 - 1)

abbrev pub kind_here : Option Sighting → Sighting → Bool
kind_here None sighting = false
kind_here (Some other) sighting = same_kind other sighting

-- in how many containers: each has one row of the call
abbrev pub containers : List Sighting → Sighting → ℕ
containers sightings sighting =
    count_by (λ row. kind_here (slice_get sightings row.place) sighting) (rows sightings)

abbrev pub total_of : List Sighting → ℕ → Sighting → Total
total_of sightings place sighting = record {
  count = record { 0 = kind_counted sightings sighting };
  nr = sighting.nr;
  arch = sighting.arch;
  value = sighting.value;
  containers = containers sightings sighting;
}

-- a total for each call and verdict, in the order in which they first come
abbrev pub totals : List Sighting → List Total
totals sightings = of_firsts same_kind (total_of sightings) sightings

-- the total is that of the sighting's call and verdict
abbrev pub total_is_of : Sighting → Total → Bool
total_is_of sighting total = total.nr == sighting.nr && (total.arch == sighting.arch
    && (total.value == sighting.value))

-- one of the totals is that of the sighting's call
abbrev pub is_totalled : Sighting → List Total → Bool
is_totalled sighting told = list_any (total_is_of sighting) told
