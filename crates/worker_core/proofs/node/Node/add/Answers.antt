use Rattle.std.proofs.Common.{◌≡◌, ◌<◌, ◌≤◌, ◌+◌, ℕ, List, [], ◌∷◌, ◌++◌, length, arith, ap, sym, ◌∙◌}
use Rattle.manifest.specs.declared.pods.Pod.{Pod}
use Rattle.worker_core.specs.contracts.node.Node.{the_view}
use Rattle.worker_core.specs.declared.limits.TheConstants.{MAX_PODS}
use Rattle.worker_core.specs.declared.slots.Slot.{Slot}
use Rattle.worker_core.specs.Kept.{KeptNode, with_pod}
use Rattle.worker_core.specs.Known.{with_uid}
use Rattle.worker_core.specs.Slots.{fresh_slot}
use Rattle.worker_core.proofs.node.Node.add.Goals as goal

few_still : (before after room : ℕ) (kept : KeptNode) → length kept.slots ≡ before → length kept.slots < room
    → after ≤ before + 1 → after ≤ room
few_still before after room kept same less more = omega arith

with_both : (kept : KeptNode) (pod : Pod) (known : List (List ℕ)) (text : List ℕ) (slots : List Slot)
    (slot : Slot)
    → text ≡ pod.uid → known ≡ with_uid text kept.known → slot ≡ fresh_slot pod kept.settings
    → slots ≡ kept.slots ++ slot ∷ []
    → ◌≡◌ {A = KeptNode} (record {
      settings = kept.settings;
      moment = kept.moment;
      number = kept.number;
      known = known;
      slots = slots;
    }) (with_pod kept pod)
with_both kept pod known text slots slot its_text its_known its_slot its_slots =
    let k : known ≡ with_uid pod.uid kept.known = its_known
    ∙ ap (λ (t : List ℕ). with_uid t kept.known) its_text in
    let s : slots ≡ kept.slots ++ fresh_slot pod kept.settings ∷ [] = its_slots
    ∙ ap (λ (x : Slot). kept.slots ++ x ∷ []) its_slot in
    λ i. record {
      settings = kept.settings;
      moment = kept.moment;
      number = kept.number;
      known = k i;
      slots =
          s i;
    }

pub invariant_of-self : goal.invariant_of-self
invariant_of-self c = record {
  ended = c.admit.ensures.by c.self.inside.moment c.self.invariant.ended;
  few = few_still (length c.self.inside.pods) _ MAX_PODS c.args.self.now
      (ap (λ (k : KeptNode). length k.slots) (sym c.self.view_is)) c.requires c.admit.ensures.more;
  counted = c.admit.ensures.counted c.self.inside.number c.self.invariant.counted;
}

pub invariant_of-self-2 : goal.invariant_of-self-2
invariant_of-self-2 c = record {
  ended = c.admit.ensures.by c.self.inside.moment c.self.invariant.ended;
  few = few_still (length c.self.inside.pods) _ MAX_PODS c.args.self.now
      (ap (λ (k : KeptNode). length k.slots) (sym c.self.view_is)) c.requires c.admit.ensures.more;
  counted = c.admit.ensures.counted c.self.inside.number c.self.invariant.counted;
}

pub returns-clause-ok : goal.returns-clause-ok
returns-clause-ok c =
    with_both (the_view c.self.inside) c.args.pod _ _ _ _
    (c.in_ok-text.ensures.ok ∙ c.as_str.ensures.value) c.in_ok-admit.ensures.known c.in_ok-slot.ensures.slot
    c.in_ok-admit.ensures.slots
    ∙ ap (λ (k : KeptNode). with_pod k c.args.pod) c.self.view_is
