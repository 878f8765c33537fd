-- What an observer adds, given the pod that was looked up.
use Rattle.std.proofs.Common.{◌≡◌, ◌<◌, ◌++◌, inl, inr, ℕ, List, [], ◌∷◌, length, Option, None, Some}
use Rattle.std.proofs.Common.{option_map, Result, Ok, Err, ap}
use Rattle.std.proofs.Common.{IfOk, subst, sym}
use Rattle.std.specs.Global.{Global}
use Rattle.std.specs.declared.string.String.{String}
use Rattle.std.specs.String.{string_bytes}
use Rattle.lifecycle.specs.declared.phases.Phase.{Phase}
use Rattle.lifecycle.specs.declared.track.Track.{Track}
use Rattle.manifest.specs.declared.pods.Pod.{Pod}
use Rattle.node_watch.specs.declared.counts.Counted.{Counted}
use Rattle.node_watch.specs.declared.forms.Form.{Form}
use Rattle.node_watch.specs.declared.seen.PodSeen.{PodSeen}
use Rattle.node_watch.specs.declared.reasons.Reason.{Reason}
use Rattle.node_watch.specs.declared.waits.PodWaits.{PodWaits}
use Rattle.node_watch.specs.Changes.{pod_changes}
use Rattle.node_watch.specs.Seen.{containers_seen}
use Rattle.node_watch.specs.Waits.{waits_of}
use Rattle.node_watch.specs.WaitTexts.{wait_changes}
use Rattle.worker_pod.specs.Next.{phase_in}
use Rattle.worker_core.specs.declared.slots.Slot.{Slot}
use Rattle.worker_crew.specs.declared.observer.TheConstants.{MAX_CHANGES}
use Rattle.worker_crew.specs.Observed.{Adds, AdmitsSeen, AdmitsWaits, Beside, IsChange, IsFirst}
use Rattle.worker_crew.specs.Observed.{IsWaitChange}

-- the looked-up pod as it is seen now, and the text of what changed since
abbrev pub IsText : Form → ℕ → List Counted → Pod → List Track → Phase → Option PodSeen → List ℕ → Type 0
IsText form moment cs pod tracks phase was text = (now : PodSeen) × (now.uid ≡ pod.uid)
    × (now.phase ≡ phase)
    × (now.containers.items ≡ containers_seen pod.policy pod.uid cs pod.containers.all tracks)
    × (text ≡ pod_changes form moment was now)

pub changed_there : (form : Form) (moment : ℕ) (cs : List Counted) (uid : List ℕ) (slot : Option Slot) (pod : Pod)
    (tracks : List Track) (phase : Phase) (was : Option PodSeen) (text : List ℕ)
    → Some pod ≡ option_map (λ s. s.state.pod) slot → Some tracks ≡ option_map (λ s. s.state.tracks) slot
    → Some phase ≡ option_map (λ s. phase_in s.state) slot
    → IsText form moment cs pod tracks phase was text → IsChange form moment cs uid slot was text
changed_there form moment cs uid None pod tracks phase was text a b c is = absurd cc
changed_there form moment cs uid (Some s) pod tracks phase was text a b c (now, u, p, i, t) =
    (now, (cc, cc, cc), t)

pub first_there : (form : Form) (moment : ℕ) (cs : List Counted) (slot : Option Slot) (pod : Pod)
    (tracks : List Track) (phase : Phase) (text : List ℕ)
    → Some pod ≡ option_map (λ s. s.state.pod) slot → Some tracks ≡ option_map (λ s. s.state.tracks) slot
    → Some phase ≡ option_map (λ s. phase_in s.state) slot
    → IsText form moment cs pod tracks phase None text → IsFirst form moment cs slot text
first_there form moment cs None pod tracks phase text a b c is = absurd cc
first_there form moment cs (Some s) pod tracks phase text a b c (now, u, p, i, t) = (now, (cc, cc, cc), t)

pub adds_so : {P Q : List ℕ → Type 0} {old new : Beside} → ((text : List ℕ) → P text → Q text)
    → Adds P old new → Adds Q old new
adds_so so adds = record {
  observed = adds.observed;
  counting = adds.counting;
  reasons = adds.reasons;
  counts = adds.counts;
  lines = elim adds.lines [
    | inl none ↦ inl (so _ none.0, none.1, none.2)
    | inr (inl one) ↦ inr (inl (one.0, so _ one.1, one.2, one.3, one.4))
    | inr (inr left) ↦ inr (inr left)
  ];
}

pub made_so : {A E : Type 0} {P Q : A → Type 0} (result : Result A E) → ((a : A) → P a → Q a)
    → IfOk result P → IfOk result Q
made_so (Ok a) so is = so a is
made_so (Err e) so is = tt

-- the text of a made line
pub text_of : (Q : List ℕ → Type 0) {E : Type 0} (line : Result (String Global) E)
    → IfOk line (λ made. Q (string_bytes made)) → (text : List ℕ)
    → (made : String Global) × (line ≡ Ok made) × (text ≡ string_bytes made) → Q text
text_of Q line is text (made, ok, same) =
    subst Q (sym same) (subst (λ r. IfOk r (λ m. Q (string_bytes m))) ok is)

pub admits_there : (form : Form) (moment : ℕ) (slot : Option Slot) (pod : Pod) {old new : Beside}
    → Some pod ≡ option_map (λ s. s.state.pod) slot → Adds (IsFirst form moment old.counts slot) old new
    → AdmitsSeen form moment slot old new
admits_there form moment None pod there adds = absurd cc
admits_there form moment (Some s) pod there adds = adds

-- why the containers of the looked-up pod wait, and the text on it
abbrev pub IsWaitText : Form → ℕ → List Reason → Pod → List Track → Option PodWaits → List ℕ → Type 0
IsWaitText form moment reasons pod tracks was text = (now : PodWaits) × (now.uid ≡ pod.uid)
    × (now.containers.items ≡ waits_of pod.policy pod.uid reasons moment pod.containers.all tracks)
    × (text ≡ wait_changes form moment was now)

pub waits_there : (form : Form) (moment : ℕ) (reasons : List Reason) (slot : Option Slot) (pod : Pod)
    (tracks : List Track) (was : Option PodWaits) (text : List ℕ)
    → Some pod ≡ option_map (λ s. s.state.pod) slot → Some tracks ≡ option_map (λ s. s.state.tracks) slot
    → IsWaitText form moment reasons pod tracks was text → IsWaitChange form moment reasons slot was text
waits_there form moment reasons None pod tracks was text a b is = absurd cc
waits_there form moment reasons (Some s) pod tracks was text a b (now, u, i, t) = (now, (cc, cc), t)

pub admits_waits_there : (form : Form) (moment : ℕ) (slot : Option Slot) (pod : Pod) {old new : Beside}
    → Some pod ≡ option_map (λ s. s.state.pod) slot
    → Adds (IsWaitChange form moment old.reasons slot None) old new → AdmitsWaits form moment slot old new
admits_waits_there form moment None pod there adds = absurd cc
admits_waits_there form moment (Some s) pod there adds = adds

-- a line that was added after the others
pub puts : {P : List ℕ → Type 0} (line : String Global) {old new : Beside} → P (string_bytes line)
    → (length old.lines < MAX_CHANGES) × (new ≡ record {
      observed = old.observed;
      counting = old.counting;
      reasons = old.reasons;
      counts = old.counts;
      lines = old.lines ++ line ∷ [];
      left_out = old.left_out;
    })
    → Adds P old new
puts line is (few, same) = record {
  observed = ap (λ k. k.observed) same;
  counting = ap (λ k. k.counting) same;
  reasons = ap (λ k. k.reasons) same;
  counts = ap (λ k. k.counts) same;
  lines = inr (inl (line, is, ap (λ k. k.lines) same, few, ap (λ k. k.left_out) same));
}
