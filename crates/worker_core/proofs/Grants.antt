-- What a worker is given.
use Rattle.std.proofs.Common.{◌≡◌, ℕ, ◌+◌, ◌<◌, ◌≤◌, nat_lt, Bool, true, false, if◌then◌else◌, List, [], ◌∷◌}
use Rattle.std.proofs.Common.{Option, Some, None, slice_get, refl, sym, ◌∙◌, ap, arith}
use Rattle.std.specs.Option.{option_map}
use Rattle.manifest.specs.declared.pods.Pod.{Pod}
use Rattle.cri_msgs.specs.declared.calls.Call.{Call}
use Rattle.cri_msgs.specs.declared.calls.Request.{Request}
use Rattle.worker_pod.specs.declared.settings.Settings.{Settings}
use Rattle.worker_pod.specs.Next.{due_of, has_come, next_of, numbered}
use Rattle.worker_pod.specs.Past.{Claimed as Ended, read_off}
use Rattle.worker_core.specs.declared.answers.Answer.TheVariants.{Claimed}
use Rattle.worker_core.specs.declared.claims.Grant.{Grant}
use Rattle.worker_core.specs.declared.limits.TheConstants.{LAST_NUMBER}
use Rattle.worker_core.specs.declared.slots.Held.{Held}
use Rattle.worker_core.specs.declared.slots.Slot.{Slot}
use Rattle.worker_core.specs.declared.turns.Turn.{Turn}
use Rattle.worker_core.specs.Kept.{KeptNode, claim_answer, grant_answer, grant_of, grant_of_slot}
use Rattle.worker_core.specs.Kept.{grant_of_turn, grant_with}
use Rattle.worker_core.specs.Laws.{state_of}
use Rattle.worker_core.specs.Nodes.{NodeState, OnNode, kept_of, slot_of, slots_of}
use Rattle.worker_core.specs.Slots.{holder_of, is_free}
use Rattle.worker_core.specs.Turns.{longest}
use Rattle.worker_core.proofs.Lists.{got, there}
use Rattle.worker_core.proofs.Longest.{Found, IsOpen, is_open, longest_found, longest_open}

-- the grant is the request of the pod whose turn it is
pub record IsGrant (kept : KeptNode) (grant : Grant) : Type 0 where
  pub turn : Turn
  pub is_turn : longest kept.moment kept.slots ≡ Some turn
  pub slot : Slot
  pub here : slice_get kept.slots turn.place ≡ Some slot
  pub call : Call
  pub next : next_of slot.state kept.moment ≡ Some call
  pub place : grant.place ≡ turn.place
  pub uid : grant.uid ≡ slot.state.pod.uid
  pub request : grant.request ≡ numbered (kept.number + 1) call

pub grant_is : (kept : KeptNode) (grant : Grant) → grant_of kept ≡ Some grant → IsGrant kept grant
grant_is kept grant e = by_number (nat_lt kept.number LAST_NUMBER) e where
  by_next : (turn : Turn) → longest kept.moment kept.slots ≡ Some turn → (slot : Slot)
      → slice_get kept.slots turn.place ≡ Some slot
      → (c : Option Call) → next_of slot.state kept.moment ≡ c
      → grant_with turn.place slot.state.pod.uid (option_map (numbered (kept.number + 1)) c) ≡ Some grant
      → IsGrant kept grant
  by_next turn is slot here None next e = absurd cc
  by_next turn is slot here (Some call) next e =
      let same : ◌≡◌ {A = Grant} (record {
        place = turn.place;
        uid = slot.state.pod.uid;
        request =
            numbered (kept.number + 1) call;
      }) grant = cc in
      record {
        turn = turn;
        is_turn = is;
        slot = slot;
        here = here;
        call = call;
        next = next;
        place = sym (ap (λ (g : Grant). g.place) same);
        uid = sym (ap (λ (g : Grant). g.uid) same);
        request = sym (ap (λ (g : Grant). g.request) same);
      }

  by_slot : (turn : Turn) → longest kept.moment kept.slots ≡ Some turn → (s : Option Slot)
      → slice_get kept.slots turn.place ≡ s → grant_of_slot kept turn.place s ≡ Some grant
      → IsGrant kept grant
  by_slot turn is None here e = absurd cc
  by_slot turn is (Some slot) here e = by_next turn is slot here (next_of slot.state kept.moment) refl e

  by_turn : (t : Option Turn) → longest kept.moment kept.slots ≡ t → grant_of_turn kept t ≡ Some grant
      → IsGrant kept grant
  by_turn None is e = absurd cc
  by_turn (Some turn) is e = by_slot turn is (slice_get kept.slots turn.place) refl e

  by_number : (b : Bool) → (if b then grant_of_turn kept (longest kept.moment kept.slots) else None)
      ≡ Some grant → IsGrant kept grant
  by_number true e = by_turn (longest kept.moment kept.slots) refl e
  by_number false e = absurd cc

-- the worker holds nothing, and this is what it is given
pub record IsGiven (kept : KeptNode) (worker : ℕ) (grant : Grant) (uid : List ℕ)
    (request : Request) : Type 0 where
  pub idle : holder_of worker kept.slots ≡ None
  pub grant_of_it : grant_of kept ≡ Some grant
  pub its_uid : grant.uid ≡ uid
  pub its_request : grant.request ≡ request

pub given_is : (kept : KeptNode) (worker : ℕ) (uid : List ℕ) (number : ℕ) (request : Request)
    → claim_answer kept (holder_of worker kept.slots) ≡ Claimed uid number request
    → (grant : Grant) × IsGiven kept worker grant uid request
given_is kept worker uid number request e = by_holder (holder_of worker kept.slots) refl e where
  by_grant : holder_of worker kept.slots ≡ None → (g : Option Grant) → grant_of kept ≡ g
      → grant_answer g ≡ Claimed uid number request → (grant : Grant) × IsGiven kept worker grant uid request
  by_grant idle None is e = absurd cc
  by_grant idle (Some grant) is e = (
    grant,
    record { idle = idle; grant_of_it = is; its_uid = cc; its_request = cc },
  )

  by_holder : (h : Option ℕ) → holder_of worker kept.slots ≡ h
      → claim_answer kept h ≡ Claimed uid number request → (grant : Grant)
      × IsGiven kept worker grant uid request
  by_holder None is e = by_grant is (grant_of kept) refl e
  by_holder (Some place) is e = absurd cc

-- a pod's manifest stays
pub pod_is : (settings : Settings) (pod : Pod) (cs : List Ended) → (read_off pod settings cs).pod ≡ pod
pod_is settings pod [] = refl
pod_is settings pod (c ∷ cs) = pod_is settings pod cs

-- and so do the settings
pub settings_is : (settings : Settings) (pod : Pod) (cs : List Ended)
    → (read_off pod settings cs).settings ≡ settings
settings_is settings pod [] = refl
settings_is settings pod (c ∷ cs) = settings_is settings pod cs

-- a grant of a node
pub record NodeGrant (old : NodeState) (grant : Grant) : Type 0 where
  pub pod : OnNode
  pub here : slice_get old.pods grant.place ≡ Some pod
  pub uid : grant.uid ≡ pod.past.pod.uid
  pub free : pod.held ≡ None
  pub due : next_of (state_of old pod) old.moment ≡ Some grant.request.call
  pub number : grant.request.id ≡ old.number + 1
  pub longest : (at : ℕ) (other : OnNode) → slice_get old.pods at ≡ Some other → other.held ≡ None
      → has_come (due_of (state_of old other)) old.moment ≡ true
      → ((state_of old pod).worked ≤ (state_of old other).worked)
      × (at < grant.place → (state_of old pod).worked < (state_of old other).worked)

pub free_if : (slot : Slot) (now : ℕ) → is_open now slot ≡ true → slot.held ≡ None
free_if slot now e = by_held slot.held refl e where
  by_held : (h : Option Held) → slot.held ≡ h → has_come (if is_free h then due_of slot.state else None) now
      ≡ true → slot.held ≡ None
  by_held None is e = is
  by_held (Some held) is e = absurd cc

-- a pod that nobody holds is open from its own moment
pub open_if : (slot : Slot) (now : ℕ) → slot.held ≡ None → has_come (due_of slot.state) now ≡ true
    → is_open now slot ≡ true
open_if slot now free e = ap (λ (h : Option Held).
    has_come (if is_free h then due_of slot.state else None) now) free ∙ e

pub node_grant : (old : NodeState) (grant : Grant) → grant_of (kept_of old) ≡ Some grant → NodeGrant old grant
node_grant old grant e =
    let g : IsGrant (kept_of old) grant = grant_is (kept_of old) grant e in
    let at : (p : OnNode) × (slice_get old.pods g.turn.place ≡ Some p) × (slot_of old.settings p ≡ g.slot) =
    got (slot_of old.settings) old.pods g.turn.place g.slot g.here in
    let o : IsOpen old.moment 0 (slots_of old) g.turn =
    longest_open old.moment (slots_of old) g.turn g.is_turn in
    let at_is : o.off ≡ g.turn.place = omega (arith, o.place) in
    let some_same : ◌≡◌ {A = Option Slot} (Some o.slot) (Some g.slot) = sym o.here
    ∙ ap (slice_get (slots_of old)) at_is ∙ g.here in
    let same : o.slot ≡ g.slot = cc in
    let is : g.slot ≡ slot_of old.settings at.0 = sym at.2 in
    record {
      pod = at.0;
      here = ap (slice_get old.pods) g.place ∙ at.1;
      uid = g.uid ∙ ap (λ (s : Slot). s.state.pod.uid) is
          ∙ ap (λ (p : Pod). p.uid) (pod_is old.settings at.0.past.pod at.0.past.claims);
      free = ap (λ (s : Slot). s.held) (sym is)
          ∙ free_if g.slot old.moment (ap (is_open old.moment) (sym same) ∙ o.open_is);
      due = ap (λ (s : Slot). next_of s.state old.moment) (sym is) ∙ g.next
          ∙ ap (λ (r : Request). Some r.call) (sym g.request);
      number = ap (λ (r : Request). r.id) g.request;
      longest = λ at' other there' free' come.
          let f : Found (longest old.moment (slots_of old)) at' (state_of old other).worked =
          longest_found old.moment (slots_of old) at' (slot_of old.settings other)
          (there (slot_of old.settings) old.pods at' other there')
          (open_if (slot_of old.settings other) old.moment free' come) in
          let turn_some : ◌≡◌ {A = Option Turn} (Some f.turn) (Some g.turn) = sym f.is ∙ g.is_turn in
          let turn_same : f.turn ≡ g.turn = cc in
          let worked : f.turn.worked ≡ (state_of old at.0).worked =
          ap (λ (t : Turn). t.worked) turn_same ∙ o.worked ∙ ap (λ (s : Slot). s.state.worked) same
          ∙ ap (λ (s : Slot). s.state.worked) is in
          let place : f.turn.place ≡ grant.place = ap (λ (t : Turn). t.place) turn_same ∙ sym g.place in
          (omega (arith, worked, f.no_later), λ l. omega (arith, worked, f.before (omega (arith, place, l))));
    }
