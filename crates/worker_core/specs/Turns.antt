-- Which pod a worker is given, and the moment from which one can be given: this project's own.
-- docs/SEMANTICS.md, "The agent: the node".
use Rattle.std.specs.Prelude.{ℕ, ◌+◌, nat_lt, min, max, Bool, true, ◌&&◌, if◌then◌else◌, List, [], ◌∷◌}
use Rattle.std.specs.Prelude.{Option, Some, None}
use Rattle.worker_pod.specs.Next.{has_come}
use Rattle.worker_core.specs.declared.slots.Slot.{Slot}
use Rattle.worker_core.specs.declared.turns.Turn.{Turn}
use Rattle.worker_core.specs.Slots.{free_due}

-- a pod that was worked on longer ago than the best so far; of equal ones the first stays
abbrev pub is_longer : Option Turn → ℕ → Bool
is_longer None worked = true
is_longer (Some best) worked = nat_lt worked best.worked

abbrev pub better : ℕ → Option Turn → ℕ → Slot → Option Turn
better now best place slot =
    if has_come (free_due slot) now && is_longer best slot.state.worked
    then Some (record { place = place; worked = slot.state.worked }) else best

abbrev pub longest_from : ℕ → ℕ → Option Turn → List Slot → Option Turn
longest_from now place best [] = best
longest_from now place best (slot ∷ slots) = longest_from now (place + 1) (better now best place slot) slots

-- of the pods that nobody holds and for which a request is due, the one that was worked on longest ago
abbrev pub longest : ℕ → List Slot → Option Turn
longest now slots = longest_from now 0 None slots

abbrev pub sooner : ℕ → Option ℕ → Option ℕ → Option ℕ
sooner now best None = best
sooner now None (Some due) = Some (max due now)
sooner now (Some best) (Some due) = Some (min best (max due now))

abbrev pub soonest_from : ℕ → Option ℕ → List Slot → Option ℕ
soonest_from now best [] = best
soonest_from now best (slot ∷ slots) = soonest_from now (sooner now best (free_due slot)) slots

-- the moment, not before this one, from which a request is due for a pod that nobody holds
abbrev pub soonest : ℕ → List Slot → Option ℕ
soonest now slots = soonest_from now None slots
