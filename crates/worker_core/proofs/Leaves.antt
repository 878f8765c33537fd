-- A pod stays on the node, or leaves with the report that its sandbox was removed.
use Rattle.std.proofs.Common.{◌≡◌, ◌⊎◌, inl, inr, ℕ, nat_lt, Bool, true, false, if◌then◌else◌, List, [], ◌∷◌}
use Rattle.std.proofs.Common.{◌++◌, map, Option, Some, None, slice_get, refl, sym, ◌∙◌, ap, subst, suc, zero}
use Rattle.std.specs.List.{remove}
use Rattle.manifest.specs.declared.pods.Pod.{Pod}
use Rattle.worker_pod.specs.declared.settings.Outcome.{Outcome}
use Rattle.worker_pod.specs.declared.settings.Outcome.TheVariants as outcome
use Rattle.worker_pod.specs.Past.{Past, admitted}
use Rattle.worker_core.specs.declared.answers.Answer.{Answer}
use Rattle.worker_core.specs.declared.answers.NodeRefusal.{NodeRefusal}
use Rattle.worker_core.specs.declared.claims.Grant.{Grant}
use Rattle.worker_core.specs.declared.events.AgentEvent.{AgentEvent}
use Rattle.worker_core.specs.declared.events.AgentEvent.TheVariants.{Admit, Delete, Claim, Report, Tick}
use Rattle.worker_core.specs.declared.events.AgentEvent.TheVariants.{Abandon}
use Rattle.worker_core.specs.declared.slots.Held.{Held}
use Rattle.worker_core.specs.Kept.{grant_of, refusal_of}
use Rattle.worker_core.specs.Laws.{EndsBy, HasLeft, Stays}
use Rattle.worker_core.specs.Nodes.{NodeState, NodeStep, OnNode, admit_node, at_moment, claim_node}
use Rattle.worker_core.specs.Nodes.{delete_node, end_node, give_node, kept_of, next_node, past_ended}
use Rattle.worker_core.specs.Nodes.{pod_claimed, pod_deleted, pod_ended, slot_of, slots_of}
use Rattle.worker_core.specs.Slots.{changed, holder_of, is_gone_slot, outcome_of, place_of}
use Rattle.worker_core.proofs.Lists.{changed_behind, there}
use Rattle.worker_core.proofs.Moves.{holder_is}

-- an element is still there, or is the one that was changed
still_changed : {A : Type 0} (f : A → A) (xs : List A) (place at : ℕ) (x : A) → slice_get xs at ≡ Some x
    → (slice_get (changed f xs place) at ≡ Some x) ⊎ (slice_get (changed f xs place) at ≡ Some (f x))
still_changed f [] place at x e = absurd cc
still_changed f (y ∷ ys) zero zero x e = let same : y ≡ x = cc in inr (ap (λ v. Some (f v)) same)
still_changed f (y ∷ ys) zero (suc at) x e = inl e
still_changed f (y ∷ ys) (suc place) zero x e =
    inl (ap (λ l. slice_get l zero) (changed_behind f y ys place (slice_get ys place)) ∙ e)
still_changed f (y ∷ ys) (suc place) (suc at) x e =
    elim (still_changed f ys place at x e) [
      | inl h ↦ inl (ap (λ l. slice_get l (suc at)) (changed_behind f y ys place (slice_get ys place)) ∙ h)
      | inr h ↦ inr (ap (λ l. slice_get l (suc at)) (changed_behind f y ys place (slice_get ys place)) ∙ h)
    ]

changed_here : {A : Type 0} (f : A → A) (xs : List A) (place : ℕ) (x : A) → slice_get xs place ≡ Some x
    → slice_get (changed f xs place) place ≡ Some (f x)
changed_here f [] place x e = absurd cc
changed_here f (y ∷ ys) zero x e = let same : y ≡ x = cc in ap (λ v. Some (f v)) same
changed_here f (y ∷ ys) (suc place) x e =
    ap (λ l. slice_get l (suc place)) (changed_behind f y ys place (slice_get ys place))
    ∙ changed_here f ys place x e

still_left : {A : Type 0} (xs : List A) (place at : ℕ) (x : A) → slice_get xs at ≡ Some x
    → (at ≡ place) ⊎ ((j : ℕ) × (slice_get (remove xs place) j ≡ Some x))
still_left [] place at x e = absurd cc
still_left (y ∷ ys) zero zero x e = inl refl
still_left (y ∷ ys) zero (suc at) x e = inr (at, e)
still_left (y ∷ ys) (suc place) zero x e = inr (0, e)
still_left (y ∷ ys) (suc place) (suc at) x e =
    elim (still_left ys place at x e) [
      | inl same ↦ inl (ap (λ (n : ℕ). suc n) same)
      | inr found ↦ inr (suc found.0, found.1)
    ]

still_pushed : {A : Type 0} (xs : List A) (y : A) (at : ℕ) (x : A) → slice_get xs at ≡ Some x
    → slice_get (xs ++ y ∷ []) at ≡ Some x
still_pushed [] y at x e = absurd cc
still_pushed (z ∷ zs) y zero x e = e
still_pushed (z ∷ zs) y (suc at) x e = still_pushed zs y at x e

ended_pod : (now : ℕ) (how : Outcome) (past : Past) (h : Option Held)
    → (past_ended now how past h).pod ≡ past.pod
ended_pod now how past None = refl
ended_pod now how past (Some held) = refl

abbrev Remains : NodeState → AgentEvent → NodeState → OnNode → Type 0
Remains old event new p = Stays new p ⊎ HasLeft old event p

stays : (old : NodeState) (event : AgentEvent) (at : ℕ) (p : OnNode) → slice_get old.pods at ≡ Some p
    → Remains old event old p
stays old event at p here = inl (record { place = at; now = p; here = here; same = refl })

in_list : (old : NodeState) (event : AgentEvent) (pods : List OnNode) (new : NodeState) → new.pods ≡ pods
    → (at : ℕ) (p q : OnNode) → q.past.pod ≡ p.past.pod → slice_get pods at ≡ Some q → Remains old event new p
in_list old event pods new is at p q same here =
    inl (record {
      place = at;
      now = q;
      here = ap (λ (l : List OnNode). slice_get l at) is ∙ here;
      same =
          same;
    })

changes : (old : NodeState) (event : AgentEvent) (f : OnNode → OnNode) (place : ℕ) (new : NodeState)
    → new.pods ≡ changed f old.pods place → (at : ℕ) (p : OnNode) → (f p).past.pod ≡ p.past.pod
    → slice_get old.pods at ≡ Some p → Remains old event new p
changes old event f place new is at p same here =
    elim (still_changed f old.pods place at p here) [
      | inl h ↦ in_list old event (changed f old.pods place) new is at p p refl h
      | inr h ↦ in_list old event (changed f old.pods place) new is at p (f p) same h
    ]

by_admit : (old : NodeState) (pod : Pod) (r : Option NodeRefusal) (at : ℕ) (p : OnNode)
    → slice_get old.pods at ≡ Some p → Remains old (Admit pod) (admit_node old pod r) p
by_admit old pod None at p here = inl (record {
  place = at;
  now = p;
  here =
      still_pushed old.pods (record { past = admitted pod; held = None }) at p here;
  same = refl;
})
by_admit old pod (Some refusal) at p here = stays old (Admit pod) at p here

by_delete : (old : NodeState) (uid : List ℕ) (place : Option ℕ) (at : ℕ) (p : OnNode)
    → slice_get old.pods at ≡ Some p → Remains old (Delete uid) (delete_node old place) p
by_delete old uid None at p here = stays old (Delete uid) at p here
by_delete old uid (Some place) at p here =
    changes old (Delete uid) pod_deleted place (delete_node old (Some place)) refl at p refl here

by_grant : (old : NodeState) (worker : ℕ) (g : Option Grant) (at : ℕ) (p : OnNode)
    → slice_get old.pods at ≡ Some p → Remains old (Claim worker) (give_node old worker g) p
by_grant old worker None at p here = stays old (Claim worker) at p here
by_grant old worker (Some grant) at p here =
    changes old (Claim worker) (pod_claimed (record { worker = worker; request = grant.request })) grant.place
    (give_node old worker (Some grant)) refl at p refl here

by_claim : (old : NodeState) (worker : ℕ) (place : Option ℕ) (at : ℕ) (p : OnNode)
    → slice_get old.pods at ≡ Some p → Remains old (Claim worker) (claim_node old worker place) p
by_claim old worker None at p here = by_grant old worker (grant_of (kept_of old)) at p here
by_claim old worker (Some place) at p here = stays old (Claim worker) at p here

by_end : (old : NodeState) (event : AgentEvent) (worker : ℕ) (how : Outcome) → EndsBy event worker how
    → (place : Option ℕ) → holder_of worker (slots_of old) ≡ place
    → (at : ℕ) (p : OnNode) → slice_get old.pods at ≡ Some p → Remains old event (end_node old how place) p
by_end old event worker how told None is at p here = stays old event at p here
by_end old event worker how told (Some place) is at p here =
    by_test (is_gone_slot (slice_get (map (slot_of old.settings) pods) place)) refl where
      pods : List OnNode
      pods = changed (pod_ended old.moment how) old.pods place

      after : Bool → NodeState
      after b = record {
        settings = old.settings;
        moment = old.moment;
        number = old.number;
        admitted =
            old.admitted;
        pods = if b then remove pods place else pods;
      }

      gone_with : at ≡ place → is_gone_slot (slice_get (map (slot_of old.settings) pods) place) ≡ true
          → HasLeft old event p
      gone_with same gone =
          let at_place : slice_get old.pods place ≡ Some p = ap (slice_get old.pods) (sym same) ∙ here in
          let h : (held : Held) × (p.held ≡ Some held) × (held.worker ≡ worker) =
          holder_is old worker place is p at_place in
          let now_there : slice_get (map (slot_of old.settings) pods) place
          ≡ Some (slot_of old.settings (pod_ended old.moment how p)) =
          there (slot_of old.settings) pods place (pod_ended old.moment how p)
          (changed_here (pod_ended old.moment how) old.pods place p at_place) in
          record {
            held = h.0;
            by = h.1;
            how = how;
            told = subst (λ (w : ℕ). EndsBy event w how) (sym h.2) told;
            gone = ap is_gone_slot (sym now_there) ∙ gone;
          }

      with_pod : (q : OnNode) → q.past.pod ≡ p.past.pod → slice_get pods at ≡ Some q → (b : Bool)
          → is_gone_slot (slice_get (map (slot_of old.settings) pods) place) ≡ b
          → Remains old event (after b) p
      with_pod q same q_here true gone =
          elim (still_left pods place at q q_here) [
            | inl at_is ↦ inr (gone_with at_is gone)
            | inr found ↦ inl (record { place = found.0; now = q; here = found.1; same = same })
          ]
      with_pod q same q_here false gone = inl (record { place = at; now = q; here = q_here; same = same })

      by_test : (b : Bool) → is_gone_slot (slice_get (map (slot_of old.settings) pods) place) ≡ b
          → Remains old event (after b) p
      by_test b gone =
          elim (still_changed (pod_ended old.moment how) old.pods place at p here) [
            | inl h ↦ with_pod p refl h b gone
            | inr h ↦ with_pod (pod_ended old.moment how p) (ended_pod old.moment how p.past p.held) h b gone
          ]

by_tick : (old : NodeState) (now : ℕ) (b : Bool) (at : ℕ) (p : OnNode) → slice_get old.pods at ≡ Some p
    → Remains old (Tick now) (if b then old else at_moment old now) p
by_tick old now true at p here = stays old (Tick now) at p here
by_tick old now false at p here = inl (record { place = at; now = p; here = here; same = refl })

by_event : (old : NodeState) (event : AgentEvent) (at : ℕ) (p : OnNode) → slice_get old.pods at ≡ Some p
    → Remains old event (next_node old event) p
by_event old (Admit pod) at p here = by_admit old pod (refusal_of (kept_of old) pod) at p here
by_event old (Delete uid) at p here = by_delete old uid (place_of uid (slots_of old)) at p here
by_event old (Claim worker) at p here = by_claim old worker (holder_of worker (slots_of old)) at p here
by_event old (Report worker reported) at p here =
    by_end old (Report worker reported) worker (outcome_of reported) (refl, refl)
    (holder_of worker (slots_of old)) refl at p here
by_event old (Tick now) at p here = by_tick old now (nat_lt now old.moment) at p here
by_event old (Abandon worker) at p here =
    by_end old (Abandon worker) worker outcome.Abandoned (refl, refl)
    (holder_of worker (slots_of old)) refl at p here

pub remains : (old : NodeState) (event : AgentEvent) (answer : Answer) (new : NodeState)
    → NodeStep old event answer new → (at : ℕ) (p : OnNode) → slice_get old.pods at ≡ Some p
    → Remains old event new p
remains old event answer new (inl taken) at p here =
    subst (λ (n : NodeState). Remains old event n p) (sym taken.new_is) (by_event old event at p here)
remains old event answer new (inr lacks) at p here =
    subst (λ (n : NodeState). Remains old event n p) (sym lacks.same) (stays old event at p here)
