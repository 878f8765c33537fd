-- The pods that can be given, in the order of the moments from which they can: this project's own.
-- docs/DECISIONS.md, "The pods that can be given are kept in the order of their moments".
use Rattle.std.specs.Prelude.{ℕ, ◌+◌, ◌-◌, nat_lt, nat_le, max, ◌==◌, Bool, not, ◌&&◌, ◌||◌, if◌then◌else◌}
use Rattle.std.specs.Prelude.{List, [], ◌∷◌, map, filter, slice_get, Option, Some, None}
use Rattle.worker_core.specs.declared.order.Due.{Due}
use Rattle.worker_core.specs.declared.slots.Slot.{Slot}
use Rattle.worker_core.specs.declared.turns.Turn.{Turn}
use Rattle.worker_core.specs.Slots.{free_due}

-- the sooner one, and of two at one moment the first of the node
abbrev pub stands_before : Due → Due → Bool
stands_before a b = nat_lt a.from b.from || (a.from == b.from && nat_lt a.place b.place)

abbrev pub put : Due → List Due → List Due
put due [] = due ∷ []
put due (d ∷ ds) = if stands_before d due then d ∷ put due ds else due ∷ d ∷ ds

abbrev pub without : ℕ → List Due → List Due
without place ds = filter (λ d. not (d.place == place)) ds

-- the entry for a pod
abbrev pub due_with : ℕ → ℕ → Option ℕ → Option Due
due_with place worked None = None
due_with place worked (Some from) = Some (record { place = place; from = from; worked = worked })

abbrev pub due_at : ℕ → Slot → Option Due
due_at place slot = due_with place slot.state.worked (free_due slot)

abbrev pub put_if : Option Due → List Due → List Due
put_if None ds = ds
put_if (Some due) ds = put due ds

abbrev pub order_from : ℕ → List Slot → List Due
order_from at [] = []
order_from at (slot ∷ slots) = put_if (due_at at slot) (order_from (at + 1) slots)

abbrev pub order_of : List Slot → List Due
order_of slots = order_from 0 slots

-- once the pod at this place has changed
abbrev pub reseated : ℕ → Slot → List Due → List Due
reseated place slot ds = put_if (due_at place slot) (without place ds)

abbrev pub reseated_if : ℕ → Option Slot → List Due → List Due
reseated_if place None ds = ds
reseated_if place (Some slot) ds = reseated place slot ds

abbrev pub refreshed : ℕ → List Slot → List Due → List Due
refreshed place slots ds = reseated_if place (slice_get slots place) ds

-- once the pod at this place has left
abbrev pub closed_up : ℕ → Due → Due
closed_up gone due = record {
  place = if nat_lt gone due.place then due.place - 1 else due.place;
  from = due.from;
  worked = due.worked;
}

abbrev pub closed : ℕ → List Due → List Due
closed gone ds = map (closed_up gone) (without gone ds)

-- of two pods that can be given, the one that was worked on longer ago, and of equal ones the first
abbrev pub is_ahead : Due → Turn → Bool
is_ahead due best =
    nat_lt due.worked best.worked || (due.worked == best.worked && nat_lt due.place best.place)

abbrev pub turn_of : Due → Turn
turn_of due = record { place = due.place; worked = due.worked }

abbrev pub prefer : Option Turn → Due → Turn
prefer None due = turn_of due
prefer (Some best) due = if is_ahead due best then turn_of due else best

abbrev pub first_turn : ℕ → Option Turn → List Due → Option Turn
first_turn now best [] = best
first_turn now best (d ∷ ds) = if nat_le d.from now then first_turn now (Some (prefer best d)) ds else best

abbrev pub first_moment : ℕ → List Due → Option ℕ
first_moment now [] = None
first_moment now (d ∷ ds) = Some (max d.from now)
