-- Histories that grow by a step.
use Rattle.std.proofs.Common.{◌≡◌, ℕ, ◌+◌, ◌≤◌, nat_le, Bool, true, List, [], ◌∷◌, ◌++◌, append_assoc, length}
use Rattle.std.proofs.Common.{refl, sym, ap, ◌∙◌, arith}
use Rattle.std.proofs.lemmas.Bool.Decides.{nat_tests}
use Rattle.std.proofs.lemmas.List.{append-nil, length-append}
use Rattle.worker_pod.specs.declared.settings.Settings.{Settings}
use Rattle.worker_core.specs.declared.events.AgentEvent.{AgentEvent}
use Rattle.worker_core.specs.Kept.{KeptNode}
use Rattle.worker_core.specs.Nodes.{IsTaken, NodeState, StandsFor, empty_node}
use Rattle.worker_core.specs.Slots.{held_in}
use Rattle.node_lock.specs.declared.entries.Entry.{Entry}
use Rattle.node_lock.specs.Books.{Books, IsKept, needed}
use Rattle.node_lock.specs.Histories.{EndsAt, GoesOn, IsStep, Leads}
use Rattle.node_lock.specs.Rooms.{room_for}

leads_push : (first : NodeState) (es : List Entry) (last next : NodeState) (e : Entry) → Leads first es last
    → IsTaken last e.event e.answer next → Leads first (es ++ e ∷ []) next
leads_push first [] last next e same step = (next, rw same step, refl)
leads_push first (x ∷ es) last next e leads step =
    (leads.0, leads.1, leads_push leads.0 es last next e leads.2 step)

-- whatever earlier parts are gone
pub ends_pushed : (settings : Settings) (gone history now : List Entry) (old new : KeptNode)
    (event : AgentEvent) (e : Entry) → EndsAt settings (gone ++ history) old
    → IsStep old event e.answer new → e.event ≡ event → now ≡ history ++ e ∷ []
    → EndsAt settings (gone ++ now) new
ends_pushed settings gone history now old new event e ends step same longer =
    let next : (n : NodeState) × IsTaken ends.0 event e.answer n × StandsFor new n = step ends.0 ends.2 in
    rw longer (rw (sym (append_assoc gone history (e ∷ []))) (
      next.0,
      leads_push (empty_node settings) (gone ++ history) ends.0 next.0 e ends.1 (rw same next.1),
      next.2,
    ))

-- what a book keeps stays kept after an entry, if there was room for it and for the ends of the claims held
-- then
pub kept_on : (settings : Settings) (before : ℕ) (history now whole whole_now : List Entry)
    (old new : KeptNode) (event : AgentEvent) (e : Entry)
    (total total_now limit capacity capacity_now ahead : ℕ)
    → IsKept settings old before history whole total limit capacity → IsStep old event e.answer new
    → e.event ≡ event → now ≡ history ++ e ∷ [] → whole_now ≡ whole ++ e ∷ [] → total_now ≡ total + 1
    → held_in new.slots + 1 ≤ ahead → length history + ahead ≤ limit → length history + ahead ≤ capacity_now
    → IsKept settings new before now whole_now total_now limit capacity_now
kept_on settings before history now whole whole_now old new event e total total_now limit capacity
    capacity_now ahead kept step same is whole_is counted held fits room =
    let longer : length now ≡ length history + 1 = ap length is ∙ length-append history (e ∷ []) in
    let was : total ≡ length history = kept.counted in
    record {
      goes_on = record {
        gone = kept.goes_on.gone;
        before_is = kept.goes_on.before_is;
        whole_is = whole_is ∙ ap (λ all. all ++ e ∷ []) kept.goes_on.whole_is
            ∙ append_assoc kept.goes_on.gone history (e ∷ [])
            ∙ ap (λ es. kept.goes_on.gone ++ es) (sym is);
        ends = ends_pushed settings [] whole whole_now old new event e kept.goes_on.ends step same whole_is;
      };
      numbers = kept.numbers;
      counted = omega (arith, longer, was, counted);
      small = kept.small;
      within = omega (arith, longer, held, fits);
      room = omega (arith, longer, held, room);
    }

-- an event that was found to have room fits
pub fits : (seen now : Books) (event : AgentEvent) (ahead : ℕ) (has : Bool) → seen ≡ now
    → ahead ≡ held_in now.node.slots + room_for now.node event
    → has ≡ nat_le (needed now event) now.limit → has ≡ true → length seen.history + ahead ≤ seen.limit
fits seen now event ahead has same ahead_is has_is has_room =
    rw same (omega (arith, ahead_is, within (sym has_is ∙ has_room))) where
      within : nat_le (needed now event) now.limit ≡ true → needed now event ≤ now.limit
      within is = grind (arith, nat_tests)

-- an ended part is gone too, and the next one has no entry yet
pub part_ended : (settings : Settings) (before : ℕ) (history : List Entry) (node : KeptNode)
    → (whole : List Entry) → GoesOn settings before history whole node
    → GoesOn settings (before + length history) [] whole node
part_ended settings before history node whole goes =
    let long : length (goes.gone ++ history) ≡ length goes.gone + length history =
    length-append goes.gone history in
    let was : length goes.gone ≡ before = goes.before_is in
    record {
      gone = goes.gone ++ history;
      before_is = omega (arith, long, was);
      whole_is = goes.whole_is ∙ sym (append-nil (goes.gone ++ history));
      ends = goes.ends;
    }
