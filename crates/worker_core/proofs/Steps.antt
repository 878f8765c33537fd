-- After an event the kept state is what the claims make it, for every node that it stood for before.
use Rattle.std.proofs.Common.{◌≡◌, inl, inr, ℕ, nat_le, nat_lt, Bool, true, false, ◌||◌, if◌then◌else◌, List}
use Rattle.std.proofs.Common.{[], ◌∷◌, ◌++◌, length, map, Option, Some, None, slice_get, refl, sym, ◌∙◌, ap}
use Rattle.std.proofs.Common.{subst, suc, zero, arith}
use Rattle.std.specs.List.{remove}
use Rattle.std.specs.Str.{bytes_eq}
use Rattle.manifest.specs.declared.pods.Pod.{Pod}
use Rattle.worker_pod.specs.declared.settings.Outcome.{Outcome}
use Rattle.worker_pod.specs.declared.settings.Outcome.TheVariants as outcome
use Rattle.worker_pod.specs.declared.settings.Settings.{Settings}
use Rattle.worker_pod.specs.Past.{admitted}
use Rattle.worker_core.specs.declared.answers.Answer.{Answer}
use Rattle.worker_core.specs.declared.answers.NodeRefusal.{NodeRefusal}
use Rattle.worker_core.specs.declared.answers.NodeRefusal.TheVariants.{Full, KnownUid}
use Rattle.worker_core.specs.declared.claims.Grant.{Grant}
use Rattle.worker_core.specs.declared.events.AgentEvent.{AgentEvent}
use Rattle.worker_core.specs.declared.events.AgentEvent.TheVariants.{Admit, Delete, Claim, Report, Tick}
use Rattle.worker_core.specs.declared.events.AgentEvent.TheVariants.{Abandon}
use Rattle.worker_core.specs.declared.limits.TheConstants.{MAX_PODS, MAX_UIDS}
use Rattle.worker_core.specs.declared.slots.Held.{Held}
use Rattle.worker_core.specs.declared.slots.Slot.{Slot}
use Rattle.worker_core.specs.Kept.{Foresees, KeptNode, KeptStep, admit_answer, after_admit, after_claim}
use Rattle.worker_core.specs.Kept.{after_delete, after_end, after_event, after_grant, after_tick, answer_of}
use Rattle.worker_core.specs.Kept.{grant_of, is_full, changes, refusal_of, takes_memory, with_moment}
use Rattle.worker_core.specs.Known.{is_known}
use Rattle.worker_core.specs.Nodes.{Comes, NodeState, OnNode, SameUids, StandsFor, admit_node, at_moment}
use Rattle.worker_core.specs.Nodes.{claim_node, delete_node, end_node, give_node, kept_of, next_node}
use Rattle.worker_core.specs.Nodes.{pod_claimed, pod_deleted, pod_ended, pods_left, slot_of, slots_of}
use Rattle.worker_core.specs.Nodes.{tick_node}
use Rattle.worker_core.specs.Slots.{changed, claimed_by, deleted, ended, holder_of, is_gone_slot, left}
use Rattle.worker_core.specs.Slots.{outcome_of, place_of}
use Rattle.worker_core.proofs.Lists.{map_changed}
use Rattle.worker_core.proofs.Texts.{known_with, length_with}

-- the node as it is kept, with its uids in another order
abbrev relisted : NodeState → List (List ℕ) → KeptNode
relisted node known = record {
  settings = node.settings;
  moment = node.moment;
  number = node.number;
  known =
      known;
  slots = slots_of node;
}

map_push : {A B : Type 0} (g : A → B) (xs : List A) (x : A) → map g (xs ++ x ∷ []) ≡ map g xs ++ g x ∷ []
map_push g [] x = refl
map_push g (y ∷ ys) x = λ i. g y ∷ map_push g ys x i

map_remove : {A B : Type 0} (g : A → B) (xs : List A) (place : ℕ)
    → map g (remove xs place) ≡ remove (map g xs) place
map_remove g [] zero = refl
map_remove g [] (suc place) = refl
map_remove g (x ∷ xs) zero = refl
map_remove g (x ∷ xs) (suc place) = λ i. g x ∷ map_remove g xs place i

ended_slot : (settings : Settings) (now : ℕ) (how : Outcome) (p : OnNode) (held : Option Held) → p.held ≡ held
    → slot_of settings (pod_ended now how (record { past = p.past; held = held }))
    ≡ ended now how (slot_of settings (record { past = p.past; held = held }))
ended_slot settings now how p None e = refl
ended_slot settings now how p (Some held) e = refl

slots_left : (settings : Settings) (pods : List OnNode) (place : ℕ)
    → map (slot_of settings) (pods_left settings pods place) ≡ left (map (slot_of settings) pods) place
slots_left settings pods place = by_test (is_gone_slot (slice_get (map (slot_of settings) pods) place)) where
  by_test : (b : Bool) → map (slot_of settings) (if b then remove pods place else pods)
      ≡ (if b then remove (map (slot_of settings) pods) place else map (slot_of settings) pods)
  by_test true = map_remove (slot_of settings) pods place
  by_test false = refl

module _ (node : NodeState) (known : List (List ℕ)) (same : SameUids known node.admitted) where
  refusal_same : (pod : Pod) → refusal_of (relisted node known) pod ≡ refusal_of (kept_of node) pod
  refusal_same pod = λ i. if same.each pod.uid i then Some KnownUid else
      if nat_le MAX_PODS (length (slots_of node)) || nat_le MAX_UIDS (same.count i) then Some Full else None

  pub answer_same : (event : AgentEvent)
      → answer_of (relisted node known) event ≡ answer_of (kept_of node) event
  answer_same (Admit pod) = ap admit_answer (refusal_same pod)
  answer_same (Delete uid) = refl
  answer_same (Claim worker) = refl
  answer_same (Report worker reported) = refl
  answer_same (Tick now) = refl
  answer_same (Abandon worker) = refl

  stands : StandsFor (relisted node known) node
  stands = record { settings = refl; moment = refl; number = refl; known = same; slots = refl }

  unknown : (pod : Pod) → refusal_of (relisted node known) pod ≡ None → is_known pod.uid known ≡ false
  unknown pod e = by_test (is_known pod.uid known) refl e where
    by_test : (b : Bool) → is_known pod.uid known ≡ b
        → ◌≡◌ {A = Option NodeRefusal} (if b then Some KnownUid else if is_full (relisted node known)
        then Some Full else None) None → is_known pod.uid known ≡ false
    by_test true is h = absurd cc
    by_test false is h = is

  admitting : (pod : Pod) (r : Option NodeRefusal) → (r ≡ None → is_known pod.uid known ≡ false)
      → StandsFor (after_admit (relisted node known) pod r) (admit_node node pod r)
  admitting pod None new = record {
    settings = refl;
    moment = refl;
    number = refl;
    known = record {
      each = λ uid. known_with uid pod.uid known (new refl)
          ∙ ap (λ b. bytes_eq uid pod.uid || b) (same.each uid);
      count = omega (arith, length_with pod.uid known (new refl), same.count);
    };
    slots = sym (map_push (slot_of node.settings) node.pods (record { past = admitted pod; held = None }));
  }
  admitting pod (Some refusal) new = stands

  deleting : (place : Option ℕ) → StandsFor (after_delete (relisted node known) place)
      (delete_node node place)
  deleting None = stands
  deleting (Some place) = record {
    settings = refl;
    moment = refl;
    number = refl;
    known = same;
    slots = sym (map_changed (slot_of node.settings) pod_deleted deleted (λ p. refl) node.pods place);
  }

  giving : (worker : ℕ) (grant : Option Grant)
      → StandsFor (after_grant (relisted node known) worker grant) (give_node node worker grant)
  giving worker None = stands
  giving worker (Some grant) =
      let held : Held = record { worker = worker; request = grant.request } in
      record {
        settings = refl;
        moment = refl;
        number = refl;
        known = same;
        slots = sym (map_changed (slot_of node.settings) (pod_claimed held) (claimed_by held)
            (λ p. refl) node.pods grant.place);
      }

  claiming : (worker : ℕ) (place : Option ℕ)
      → StandsFor (after_claim (relisted node known) worker place) (claim_node node worker place)
  claiming worker None = giving worker (grant_of (kept_of node))
  claiming worker (Some place) = stands

  ending : (how : Outcome) (place : Option ℕ)
      → StandsFor (after_end (relisted node known) how place) (end_node node how place)
  ending how None = stands
  ending how (Some place) =
      let pods : List OnNode = changed (pod_ended node.moment how) node.pods place in
      record {
        settings = refl;
        moment = refl;
        number = refl;
        known = same;
        slots = sym (slots_left node.settings pods place
            ∙ ap (λ (slots : List Slot). left slots place)
            (map_changed (slot_of node.settings) (pod_ended node.moment how) (ended node.moment how)
            (λ p. ended_slot node.settings node.moment how p p.held refl) node.pods place));
      }

  ticking : (now : ℕ) → StandsFor (after_tick (relisted node known) now) (tick_node node now)
  ticking now = by_test (nat_lt now node.moment) where
    by_test : (b : Bool) → StandsFor (if b then relisted node known
        else with_moment (relisted node known) now) (if b then node else at_moment node now)
    by_test true = stands
    by_test false = record { settings = refl; moment = refl; number = refl; known = same; slots = refl }

  pub after_stands : (event : AgentEvent)
      → StandsFor (after_event (relisted node known) event) (next_node node event)
  after_stands (Admit pod) =
      subst (λ (r : Option NodeRefusal). StandsFor
      (after_admit (relisted node known) pod (refusal_of (relisted node known) pod))
      (admit_node node pod r)) (refusal_same pod)
      (admitting pod (refusal_of (relisted node known) pod) (unknown pod))
  after_stands (Delete uid) = deleting (place_of uid (slots_of node))
  after_stands (Claim worker) = claiming worker (holder_of worker (slots_of node))
  after_stands (Report worker reported) = ending (outcome_of reported) (holder_of worker (slots_of node))
  after_stands (Tick now) = ticking now
  after_stands (Abandon worker) = ending outcome.Abandoned (holder_of worker (slots_of node))

relists : (kept : KeptNode) (node : NodeState) → StandsFor kept node → kept ≡ relisted node kept.known
relists kept node s = λ i. record {
  settings = s.settings i;
  moment = s.moment i;
  number = s.number i;
  known =
      kept.known;
  slots = s.slots i;
}

-- the answer is that of the node
pub answers : (kept : KeptNode) (node : NodeState) → StandsFor kept node → (event : AgentEvent)
    → answer_of kept event ≡ answer_of (kept_of node) event
answers kept node s event = ap (λ (k : KeptNode). answer_of k event) (relists kept node s)
    ∙ answer_same node kept.known s.known event

-- it takes memory if the node does
takes_same : (node : NodeState) (known : List (List ℕ)) (event : AgentEvent)
    → takes_memory (relisted node known) event ≡ takes_memory (kept_of node) event
takes_same node known (Admit pod) = refl
takes_same node known (Delete uid) = refl
takes_same node known (Claim worker) = refl
takes_same node known (Report worker reported) = refl
takes_same node known (Tick now) = refl
takes_same node known (Abandon worker) = refl

takes : (kept : KeptNode) (node : NodeState) → StandsFor kept node → (event : AgentEvent)
    → takes_memory kept event ≡ takes_memory (kept_of node) event
takes kept node s event = ap (λ (k : KeptNode). takes_memory k event) (relists kept node s)
    ∙ takes_same node kept.known event

-- a step of what is kept is a step of the node
pub comes : (kept : KeptNode) (event : AgentEvent) (answer : Answer) (new : KeptNode)
    → KeptStep kept event answer new
    → (node : NodeState) → StandsFor kept node → Comes node event answer new
comes kept event answer new (inl taken) node s =
    let is : new ≡ after_event (relisted node kept.known) event = taken.1
    ∙ ap (λ (k : KeptNode). after_event k event) (relists kept node s) in
    record {
      new = next_node node event;
      step = inl (record { answer_is = taken.0 ∙ answers kept node s event; new_is = refl });
      stands = subst (λ (k : KeptNode). StandsFor k (next_node node event)) (sym is)
          (after_stands node kept.known s.known event);
    }
comes kept event answer new (inr lacks) node s = record {
  new = node;
  step = inr (record {
    takes = sym (takes kept node s event) ∙ lacks.takes;
    changing = ap changes (sym (answers kept node s event)) ∙ lacks.changing;
    answer_is = lacks.answer_is;
    same = refl;
  });
  stands = subst (λ (k : KeptNode). StandsFor k node) (sym lacks.same) s;
}

pub foresees : (kept : KeptNode) (event : AgentEvent) (answer : Answer) → Foresees kept event answer
    → (node : NodeState) → StandsFor kept node → Foresees (kept_of node) event answer
foresees kept event answer (inl is) node s = inl (is ∙ answers kept node s event)
foresees kept event answer (inr lacks) node s = inr (record {
  takes = lacks.takes;
  changing = ap changes (sym (answers kept node s event)) ∙ lacks.changing;
  answer_is = lacks.answer_is;
})
