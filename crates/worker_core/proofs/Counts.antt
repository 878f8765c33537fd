-- No more runs of a container began than claims were given.
use Rattle.std.proofs.Common.{◌≡◌, ℕ, ◌+◌, ◌≤◌, List, [], ◌∷◌, ◌++◌, Some, slice_get}
use Rattle.std.proofs.Common.{inl, inr, sym, ◌∙◌, ap, subst, arith}
use Rattle.std.specs.List.{remove}
use Rattle.worker_core.specs.declared.claims.Grant.{Grant}
use Rattle.worker_core.specs.declared.slots.Held.{Held}
use Rattle.worker_core.specs.declared.slots.Slot.{Slot}
use Rattle.worker_core.specs.Kept.{KeptNode, grant_of}
use Rattle.worker_core.specs.Slots.{AllCounted, IsCounted, changed, claimed_by, deleted}
use Rattle.worker_core.proofs.Grants.{grant_is}
use Rattle.worker_core.proofs.Lists.{in_changed, in_push, in_remove}

counted_more : (number later : ℕ) → number ≤ later → (slot : Slot) → IsCounted number slot
    → IsCounted later slot
counted_more number later l slot is = record {
  most = is.most;
  begun = is.begun;
  few = omega (arith, l, is.few);
}

-- nor than are given later
pub all_counted_more : (number later : ℕ) → number ≤ later → (slots : List Slot) → AllCounted number slots
    → AllCounted later slots
all_counted_more number later l slots all at slot here = counted_more number later l slot (all at slot here)

-- no run of a just admitted pod began
pub counted_by_push : (number : ℕ) (old new : List Slot) (slot : Slot) → new ≡ old ++ slot ∷ []
    → IsCounted 0 slot → AllCounted number old → AllCounted number new
counted_by_push number old new slot more fresh all at last e =
    elim (in_push old slot at last (ap (λ (slots : List Slot). slice_get slots at) (sym more) ∙ e)) [
      | inl there ↦ all at last there
      | inr found ↦ subst (IsCounted number) (sym found.1) (counted_more 0 number (omega arith) slot fresh)
    ]

pub counted_by_remove : (number : ℕ) (slots : List Slot) (place : ℕ) → AllCounted number slots
    → AllCounted number (remove slots place)
counted_by_remove number slots place all at slot e =
    let found : (j : ℕ) × (slice_get slots j ≡ Some slot) = in_remove slots place at slot e in
    all found.0 slot found.1

-- if one pod changes
by_change : (f : Slot → Slot) (number later : ℕ) → number ≤ later
    → ((slot : Slot) → IsCounted number slot → IsCounted later (f slot))
    → (old new : List Slot) (place : ℕ) → new ≡ changed f old place
    → AllCounted number old → AllCounted later new
by_change f number later l each old new place is all at slot e =
    elim (in_changed f old place at slot (ap (λ (slots : List Slot). slice_get slots at) (sym is) ∙ e)) [
      | inl same ↦ counted_more number later l slot (all at slot same)
      | inr found ↦ subst (IsCounted later) (sym found.3) (each found.0 (all at found.0 found.2))
    ]

pub counted_by_delete : (number : ℕ) (old new : List Slot) (place : ℕ) → new ≡ changed deleted old place
    → AllCounted number old → AllCounted number new
counted_by_delete number = by_change deleted number number (omega arith)
    (λ slot is. record { most = is.most; begun = is.begun; few = is.few })

-- a claim may begin one more
pub counted_by_claim : (held : Held) (number : ℕ) (old new : List Slot) (place : ℕ)
    → new ≡ changed (claimed_by held) old place → AllCounted number old → AllCounted (number + 1) new
counted_by_claim held number = by_change (claimed_by held) number (number + 1) (omega arith)
    (λ slot is. record { most = is.most; begun = is.begun; few = omega (arith, is.few) })

-- and has the next number
pub next_number : (kept : KeptNode) (grant : Grant) → grant_of kept ≡ Some grant
    → grant.request.id ≡ kept.number + 1
next_number kept grant e = ap (λ r. r.id) (grant_is kept grant e).request
