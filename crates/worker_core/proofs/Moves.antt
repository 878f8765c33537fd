-- What a step does to any pod of a node.
use Rattle.std.proofs.Common.{◌≡◌, ◌⊎◌, inl, inr, ℕ, ◌<◌, ◌≤◌, nat_lt, Bool, true, false, ◌||◌, if◌then◌else◌}
use Rattle.std.proofs.Common.{List, length, map, Option, Some, None, slice_get, get_or, cond, refl, sym, ◌∙◌}
use Rattle.std.proofs.Common.{ap, subst, arith}
use Rattle.std.proofs.lemmas.Bool.{eqb-true, ltb-true}
use Rattle.std.proofs.lemmas.List.Quantifiers.{position-Some}
use Rattle.std.proofs.lemmas.Option.{get_or_from_slice_get, slice_get_cases}
use Rattle.std.specs.List.{position_or_len, remove}
use Rattle.std.specs.Str.{bytes_eq}
use Rattle.manifest.specs.declared.pods.Pod.{Pod}
use Rattle.cri_msgs.specs.declared.calls.Request.{Request}
use Rattle.worker_pod.specs.declared.settings.Outcome.{Outcome}
use Rattle.worker_pod.specs.declared.settings.Outcome.TheVariants as outcome
use Rattle.worker_pod.specs.Next.{next_of}
use Rattle.worker_pod.specs.Past.{admitted}
use Rattle.worker_core.specs.declared.answers.Answer.{Answer}
use Rattle.worker_core.specs.declared.answers.Answer.TheVariants.{Done, Claimed as Given}
use Rattle.worker_core.specs.declared.answers.NodeRefusal.{NodeRefusal}
use Rattle.worker_core.specs.declared.answers.NodeRefusal.TheVariants.{Full, KnownUid}
use Rattle.worker_core.specs.declared.claims.Grant.{Grant}
use Rattle.worker_core.specs.declared.events.AgentEvent.{AgentEvent}
use Rattle.worker_core.specs.declared.events.AgentEvent.TheVariants.{Admit, Delete, Claim, Report, Tick}
use Rattle.worker_core.specs.declared.events.AgentEvent.TheVariants.{Abandon}
use Rattle.worker_core.specs.declared.slots.Held.{Held}
use Rattle.worker_core.specs.declared.slots.Slot.{Slot}
use Rattle.worker_core.specs.Kept.{admit_answer, answer_of, claim_answer, end_answer, grant_answer, grant_of}
use Rattle.worker_core.specs.Kept.{is_full, refusal_of}
use Rattle.worker_core.specs.Known.{is_known}
use Rattle.worker_core.specs.Laws.{EndsBy, state_of}
use Rattle.worker_core.specs.Nodes.{NodeState, NodeStep, OnNode, admit_node, at_moment, claim_node}
use Rattle.worker_core.specs.Nodes.{delete_node, end_node, give_node, kept_of, next_node, pod_claimed}
use Rattle.worker_core.specs.Nodes.{pod_deleted, pod_ended, slot_of, slots_of}
use Rattle.worker_core.specs.Slots.{changed, holder_of, is_gone_slot, is_held_by, outcome_of, place_of}
use Rattle.worker_core.proofs.Grants.{NodeGrant, node_grant}
use Rattle.worker_core.proofs.Lists.{got, in_changed, in_push, in_remove_at, skip, skip_apart, there}

-- the pod was free, and a worker without a pod holds it now
pub record WasGiven (old : NodeState) (event : AgentEvent) (answer : Answer) (p new : OnNode) : Type 0 where
  pub worker : ℕ
  pub request : Request
  pub event_is : event ≡ Claim worker
  pub given : answer ≡ Given p.past.pod.uid request.id request
  pub idle : holder_of worker (slots_of old) ≡ None
  pub due : next_of (state_of old p) old.moment ≡ Some request.call
  pub is : new ≡ pod_claimed (record { worker = worker; request = request }) p

-- the worker that held the pod reported how its claim ended
pub record WasEnded (old : NodeState) (event : AgentEvent) (answer : Answer) (p new : OnNode) : Type 0 where
  pub held : Held
  pub how : Outcome
  pub by : p.held ≡ Some held
  pub told : EndsBy event held.worker how
  pub done : answer ≡ Done
  pub is : new ≡ pod_ended old.moment how p

abbrev pub Goes : NodeState → AgentEvent → Answer → OnNode → OnNode → Type 0
Goes old event answer p new = ((new ≡ p) ⊎ (new ≡ pod_deleted p)) ⊎
    (WasGiven old event answer p new ⊎ WasEnded old event answer p new)

-- the pod was on the node before
pub record Came (old : NodeState) (event : AgentEvent) (answer : Answer) (from : ℕ)
    (new : OnNode) : Type 0 where
  pub pod : OnNode
  pub here : slice_get old.pods from ≡ Some pod
  pub goes : Goes old event answer pod new

-- the pod was just admitted
pub record IsFresh (old : NodeState) (event : AgentEvent) (answer : Answer) (at : ℕ)
    (new : OnNode) : Type 0 where
  pub pod : Pod
  pub event_is : event ≡ Admit pod
  pub done : answer ≡ Done
  pub unknown : is_known pod.uid old.admitted ≡ false
  pub last : at ≡ length old.pods
  pub is : new ≡ record { past = admitted pod; held = None }

pub record Moves (old : NodeState) (event : AgentEvent) (answer : Answer) (new : NodeState) : Type 0 where
  pub origin : ℕ → ℕ
  pub apart : (a b : ℕ) → origin a ≡ origin b → a ≡ b
  pub came : (at : ℕ) (p : OnNode) → slice_get new.pods at ≡ Some p
      → IsFresh old event answer at p ⊎ Came old event answer (origin at) p
  pub settings : new.settings ≡ old.settings
  pub grows : old.number ≤ new.number
  pub known_stays : (uid : List ℕ) → is_known uid old.admitted ≡ true → is_known uid new.admitted ≡ true

stays : (old : NodeState) (event : AgentEvent) (answer : Answer) → Moves old event answer old
stays old event answer = record {
  origin = λ at. at;
  apart = λ a b e. e;
  came = λ at p here. inr (record { pod = p; here = here; goes = inl (inl refl) });
  settings = refl;
  grows = omega arith;
  known_stays = λ uid e. e;
}

-- Admit
pub unknown_pod : (node : NodeState) (pod : Pod) → refusal_of (kept_of node) pod ≡ None
    → is_known pod.uid node.admitted ≡ false
unknown_pod node pod e = by_test (is_known pod.uid node.admitted) refl e where
  by_test : (b : Bool) → is_known pod.uid node.admitted ≡ b
      → ◌≡◌ {A = Option NodeRefusal} (if b then Some KnownUid else if is_full (kept_of node) then Some Full
      else None) None → is_known pod.uid node.admitted ≡ false
  by_test true is h = absurd cc
  by_test false is h = is

or_known : (a b : Bool) → b ≡ true → (a || b) ≡ true
or_known true b e = refl
or_known false b e = e

admits : (old : NodeState) (pod : Pod) (answer : Answer) (r : Option NodeRefusal)
    → refusal_of (kept_of old) pod ≡ r → answer ≡ admit_answer r
    → Moves old (Admit pod) answer (admit_node old pod r)
admits old pod answer None is said = record {
  origin = λ at. at;
  apart = λ a b e. e;
  came = λ at p here.
      elim (in_push old.pods (record { past = admitted pod; held = None }) at p here) [
        | inl same ↦ inr (record { pod = p; here = same; goes = inl (inl refl) })
        | inr new ↦ inl (record {
          pod = pod;
          event_is = refl;
          done = said;
          unknown = unknown_pod old pod is;
          last = new.0;
          is = new.1;
        })
      ];
  settings = refl;
  grows = omega arith;
  known_stays = λ uid e. or_known (bytes_eq uid pod.uid) (is_known uid old.admitted) e;
}
admits old pod answer (Some refusal) is said = stays old (Admit pod) answer

-- Delete
deletes : (old : NodeState) (uid : List ℕ) (answer : Answer) (place : Option ℕ)
    → Moves old (Delete uid) answer (delete_node old place)
deletes old uid answer None = stays old (Delete uid) answer
deletes old uid answer (Some place) = record {
  origin = λ at. at;
  apart = λ a b e. e;
  came = λ at p here.
      elim (in_changed pod_deleted old.pods place at p here) [
        | inl same ↦ inr (record { pod = p; here = same; goes = inl (inl refl) })
        | inr found ↦ inr (record { pod = found.0; here = found.2; goes = inl (inr found.3) })
      ];
  settings = refl;
  grows = omega arith;
  known_stays = λ uid e. e;
}

-- Claim
gives : (old : NodeState) (worker : ℕ) (answer : Answer) → holder_of worker (slots_of old) ≡ None
    → (g : Option Grant) → grant_of (kept_of old) ≡ g → answer ≡ grant_answer g
    → Moves old (Claim worker) answer (give_node old worker g)
gives old worker answer idle None is said = stays old (Claim worker) answer
gives old worker answer idle (Some grant) is said =
    let g : NodeGrant old grant = node_grant old grant is in
    let held : Held = record { worker = worker; request = grant.request } in
    record {
      origin = λ at. at;
      apart = λ a b e. e;
      came = λ at p here.
          elim (in_changed (pod_claimed held) old.pods grant.place at p here) [
            | inl same ↦ inr (record { pod = p; here = same; goes = inl (inl refl) })
            | inr found ↦
                let some_same : ◌≡◌ {A = Option OnNode} (Some found.0) (Some g.pod) = sym found.2
                ∙ ap (slice_get old.pods) found.1 ∙ g.here in
                let same : found.0 ≡ g.pod = cc in
                inr (record {
                  pod = found.0;
                  here = found.2;
                  goes = inr (inl (record {
                    worker = worker;
                    request = grant.request;
                    event_is = refl;
                    given = said ∙ ap (λ (u : List ℕ). Given u grant.request.id grant.request)
                        (g.uid ∙ ap (λ (p : OnNode). p.past.pod.uid) (sym same));
                    idle = idle;
                    due = ap (λ (p : OnNode). next_of (state_of old p) old.moment) same ∙ g.due;
                    is = found.3;
                  }));
                })
          ];
      settings = refl;
      grows = omega (arith, g.number);
      known_stays = λ uid e. e;
    }

claims : (old : NodeState) (worker : ℕ) (answer : Answer) (place : Option ℕ)
    → holder_of worker (slots_of old) ≡ place → answer ≡ claim_answer (kept_of old) place
    → Moves old (Claim worker) answer (claim_node old worker place)
claims old worker answer None is said = gives old worker answer is (grant_of (kept_of old)) refl said
claims old worker answer (Some place) is said = stays old (Claim worker) answer

-- Report and Abandon
held_is : (worker : ℕ) (h : Option Held) → is_held_by worker h ≡ true → (held : Held) × (h ≡ Some held)
    × (held.worker ≡ worker)
held_is worker None e = absurd cc
held_is worker (Some held) e = (held, refl, eqb-true held.worker worker e)

-- the pod that the worker holds
pub holder_is : (node : NodeState) (worker place : ℕ) → holder_of worker (slots_of node) ≡ Some place
    → (p : OnNode) → slice_get node.pods place ≡ Some p
    → (held : Held) × (p.held ≡ Some held) × (held.worker ≡ worker)
holder_is node worker place e p here =
    let slot : Slot = slot_of node.settings p in
    let same : get_or (slots_of node) place slot ≡ slot =
    get_or_from_slice_get (slots_of node) place slot slot
    (there (slot_of node.settings) node.pods place p here) in
    let passes : is_held_by worker (get_or (slots_of node) place slot).held ≡ true =
    (position-Some (λ (s : Slot). is_held_by worker s.held) (slots_of node) place slot e).1 in
    held_is worker p.held (ap (λ (s : Slot). is_held_by worker s.held) (sym same) ∙ passes)

found_at : (b : Bool) (n place : ℕ) → cond b (Some n) None ≡ Some place → (b ≡ true) × (n ≡ place)
found_at true n place e = (refl, cc)
found_at false n place e = absurd cc

-- which is on the node
pub holder_there : (node : NodeState) (worker place : ℕ) → holder_of worker (slots_of node) ≡ Some place
    → (p : OnNode) × (slice_get node.pods place ≡ Some p)
holder_there node worker place e =
    let test : Slot → Bool = λ (s : Slot). is_held_by worker s.held in
    let slots : List Slot = slots_of node in
    let found : (nat_lt (position_or_len test slots) (length slots) ≡ true)
    × (position_or_len test slots ≡ place) =
    found_at (nat_lt (position_or_len test slots) (length slots)) (position_or_len test slots) place e in
    let less : place < length slots = omega (arith, ltb-true _ _ found.0, found.1) in
    elim ((slice_get_cases slots place).1) [
      | inl here ↦ let p : (x : OnNode) × (slice_get node.pods place ≡ Some x)
          × (slot_of node.settings x ≡ here.0) = got (slot_of node.settings) node.pods place here.0 here.2 in
          (p.0, p.1)
      | inr past ↦ absurd (omega (arith, less, past.0))
    ]

module _ (old : NodeState) (event : AgentEvent) (answer : Answer) (worker : ℕ) (how : Outcome)
    (told : EndsBy event worker how) where
  goes_ended : (place : ℕ) → holder_of worker (slots_of old) ≡ Some place → answer ≡ Done
      → (at : ℕ) (p : OnNode)
      → slice_get (changed (pod_ended old.moment how) old.pods place) at ≡ Some p → Came old event answer at p
  goes_ended place is done at p here =
      elim (in_changed (pod_ended old.moment how) old.pods place at p here) [
        | inl same ↦ record { pod = p; here = same; goes = inl (inl refl) }
        | inr found ↦
            let h : (held : Held) × (found.0.held ≡ Some held) × (held.worker ≡ worker) =
            holder_is old worker place is found.0 (ap (slice_get old.pods) (sym found.1) ∙ found.2) in
            record {
              pod = found.0;
              here = found.2;
              goes = inr (inr (record {
                held = h.0;
                how = how;
                by = h.1;
                told = subst (λ (w : ℕ). EndsBy event w how) (sym h.2) told;
                done = done;
                is = found.3;
              }));
            }
      ]

  ends : (place : Option ℕ) → holder_of worker (slots_of old) ≡ place → answer ≡ end_answer place
      → Moves old event answer (end_node old how place)
  ends None is said = stays old event answer
  ends (Some place) is said = by_test (is_gone_slot (slice_get (map (slot_of old.settings) pods) place)) where
    pods : List OnNode
    pods = changed (pod_ended old.moment how) old.pods place

    by_test : (b : Bool) → Moves old event answer
        (record {
          settings = old.settings;
          moment = old.moment;
          number = old.number;
          admitted = old.admitted;
          pods = if b then remove pods place else pods;
        })
    by_test true = record {
      origin = skip place;
      apart = skip_apart place;
      came = λ at p here. inr (goes_ended place is said (skip place at) p
          (in_remove_at pods place at p here));
      settings = refl;
      grows = omega arith;
      known_stays = λ uid e. e;
    }
    by_test false = record {
      origin = λ at. at;
      apart = λ a b e. e;
      came = λ at p here. inr (goes_ended place is said at p here);
      settings = refl;
      grows = omega arith;
      known_stays = λ uid e. e;
    }

-- Tick
ticks : (old : NodeState) (now : ℕ) (answer : Answer) (b : Bool)
    → Moves old (Tick now) answer (if b then old else at_moment old now)
ticks old now answer true = stays old (Tick now) answer
ticks old now answer false = record {
  origin = λ at. at;
  apart = λ a b e. e;
  came = λ at p here. inr (record { pod = p; here = here; goes = inl (inl refl) });
  settings = refl;
  grows = omega arith;
  known_stays = λ uid e. e;
}

moves_on : (old : NodeState) (event : AgentEvent) (answer : Answer) → answer ≡ answer_of (kept_of old) event
    → Moves old event answer (next_node old event)
moves_on old (Admit pod) answer said = admits old pod answer (refusal_of (kept_of old) pod) refl said
moves_on old (Delete uid) answer said = deletes old uid answer (place_of uid (slots_of old))
moves_on old (Claim worker) answer said = claims old worker answer (holder_of worker (slots_of old)) refl said
moves_on old (Report worker reported) answer said =
    ends old (Report worker reported) answer worker (outcome_of reported) (refl, refl)
    (holder_of worker (slots_of old)) refl said
moves_on old (Tick now) answer said = ticks old now answer (nat_lt now old.moment)
moves_on old (Abandon worker) answer said =
    ends old (Abandon worker) answer worker outcome.Abandoned (refl, refl)
    (holder_of worker (slots_of old)) refl said

pub moves : (old : NodeState) (event : AgentEvent) (answer : Answer) (new : NodeState)
    → NodeStep old event answer new → Moves old event answer new
moves old event answer new (inl taken) =
    subst (Moves old event answer) (sym taken.new_is) (moves_on old event answer taken.answer_is)
moves old event answer new (inr lacks) =
    subst (Moves old event answer) (sym lacks.same) (stays old event answer)
