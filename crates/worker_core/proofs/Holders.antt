-- What a worker holds is what its node keeps of it.
use Rattle.std.proofs.Common.{◌≡◌, ℕ, List, Option, Some, None, slice_get, refl, sym, ◌∙◌, ap, subst}
use Rattle.worker_core.specs.declared.slots.Held.{Held}
use Rattle.worker_core.specs.declared.slots.Slot.{Slot}
use Rattle.worker_core.specs.Kept.{KeptNode}
use Rattle.worker_core.specs.Laws.{IsClaimOf}
use Rattle.worker_core.specs.Nodes.{NodeState, OnNode, StandsFor, slot_of, slots_of}
use Rattle.worker_core.specs.Slots.{claim_of, holder_of, request_at, request_in, request_of}
use Rattle.worker_core.proofs.Idle.{idle_holds_none}
use Rattle.worker_core.proofs.Lists.{there}
use Rattle.worker_core.proofs.Moves.{holder_is, holder_there}

by_place : (node : NodeState) (worker : ℕ) (place : Option ℕ) → holder_of worker (slots_of node) ≡ place
    → IsClaimOf node worker (request_at (slots_of node) place)
by_place node worker None is = λ uid request h.
    idle_holds_none node worker is h.place h.at.pod h.at.here (record { worker = worker; request = request })
    h.at.by refl
by_place node worker (Some place) is =
    let p : (p : OnNode) × (slice_get node.pods place ≡ Some p) = holder_there node worker place is in
    let h : (held : Held) × (p.0.held ≡ Some held) × (held.worker ≡ worker) =
    holder_is node worker place is p.0 p.1 in
    let slot : request_in (slice_get (slots_of node) place) ≡ Some h.0.request =
    ap request_in (there (slot_of node.settings) node.pods place p.0 p.1) ∙ ap request_of h.1 in
    let by : p.0.held ≡ Some (record { worker = worker; request = h.0.request }) = h.1
    ∙ (λ i. Some (record { worker = h.2 i; request = h.0.request })) in
    subst (IsClaimOf node worker) (sym slot) (
      p.0.past.pod.uid,
      record { place = place; at = record { pod = p.0; here = p.1; of_uid = refl; by = by } },
    )

pub claim_is : (kept : KeptNode) (node : NodeState) → StandsFor kept node → (worker : ℕ)
    → IsClaimOf node worker (claim_of worker kept.slots)
claim_is kept node s worker = subst (λ (slots : List Slot). IsClaimOf node worker (claim_of worker slots))
    (sym s.slots) (by_place node worker (holder_of worker (slots_of node)) refl)
