-- A node, by the whole list of each pod's ended claims, and the effect of an event on it: this project's own.
-- docs/SEMANTICS.md, "The agent: the node".
use Rattle.std.specs.Prelude.{◌≡◌, ◌⊎◌, ℕ, ◌≤◌, nat_lt, true, if◌then◌else◌, List, [], ◌∷◌, ◌++◌, length, map}
use Rattle.std.specs.Prelude.{Option, Some, None, slice_get}
use Rattle.std.specs.List.{remove}
use Rattle.manifest.specs.declared.pods.Pod.{Pod}
use Rattle.cri_msgs.specs.declared.calls.Call.{Call}
use Rattle.worker_pod.specs.declared.settings.Outcome.{Outcome}
use Rattle.worker_pod.specs.declared.settings.Outcome.TheVariants as outcome
use Rattle.worker_pod.specs.declared.settings.Settings.{Settings}
use Rattle.worker_pod.specs.Next.{next_of}
use Rattle.worker_pod.specs.Past.{Past, admitted, as_deleted, held_of, with_claim}
use Rattle.worker_core.specs.declared.answers.Answer.{Answer}
use Rattle.worker_core.specs.declared.answers.Answer.TheVariants.{Refused}
use Rattle.worker_core.specs.declared.answers.NodeRefusal.{NodeRefusal}
use Rattle.worker_core.specs.declared.answers.NodeRefusal.TheVariants.{Memory}
use Rattle.worker_core.specs.declared.claims.Grant.{Grant}
use Rattle.worker_core.specs.declared.events.AgentEvent.{AgentEvent}
use Rattle.worker_core.specs.declared.events.AgentEvent.TheVariants.{Admit, Delete, Claim, Report, Tick}
use Rattle.worker_core.specs.declared.events.AgentEvent.TheVariants.{Abandon}
use Rattle.worker_core.specs.declared.slots.Held.{Held}
use Rattle.worker_core.specs.declared.slots.Slot.{Slot}
use Rattle.worker_core.specs.Known.{is_known}
use Rattle.worker_core.specs.Kept.{KeptNode, answer_of, grant_of, changes, refusal_of, takes_memory}
use Rattle.worker_core.specs.Slots.{changed, holder_of, is_gone_slot, outcome_of, place_of}

-- a pod on the node, with all its ended claims, and what a worker holds of it
pub record OnNode : Type 0 where
  pub past : Past
  pub held : Option Held

pub record NodeState : Type 0 where
  pub settings : Settings
  pub moment : ℕ
  -- the greatest number of a request that was given, 0 for none
  pub number : ℕ
  -- all uids ever admitted, the newest first
  pub admitted : List (List ℕ)
  -- the pods, in order of admission
  pub pods : List OnNode

abbrev pub empty_node : Settings → NodeState
empty_node settings = record { settings = settings; moment = 0; number = 0; admitted = []; pods = [] }

-- the state that is read off the claims
abbrev pub slot_of : Settings → OnNode → Slot
slot_of settings p = record { state = held_of settings p.past; held = p.held }

abbrev pub slots_of : NodeState → List Slot
slots_of node = map (slot_of node.settings) node.pods

abbrev pub kept_of : NodeState → KeptNode
kept_of node = record {
  settings = node.settings;
  moment = node.moment;
  number = node.number;
  known =
      node.admitted;
  slots = slots_of node;
}

-- Admit
abbrev pub with_admitted : NodeState → Pod → NodeState
with_admitted node pod = record {
  settings = node.settings;
  moment = node.moment;
  number = node.number;
  admitted = pod.uid ∷ node.admitted;
  pods = node.pods ++ record { past = admitted pod; held = None } ∷ [];
}

abbrev pub admit_node : NodeState → Pod → Option NodeRefusal → NodeState
admit_node node pod None = with_admitted node pod
admit_node node pod (Some refusal) = node

-- Delete
abbrev pub with_pods : NodeState → List OnNode → NodeState
with_pods node pods = record {
  settings = node.settings;
  moment = node.moment;
  number = node.number;
  admitted = node.admitted;
  pods = pods;
}

abbrev pub pod_deleted : OnNode → OnNode
pod_deleted p = record { past = as_deleted p.past; held = p.held }

abbrev pub delete_node : NodeState → Option ℕ → NodeState
delete_node node None = node
delete_node node (Some place) = with_pods node (changed pod_deleted node.pods place)

-- Claim: the worker holds the pod, by this request
abbrev pub pod_claimed : Held → OnNode → OnNode
pod_claimed held p = record { past = p.past; held = Some held }

abbrev pub with_given : NodeState → ℕ → Grant → NodeState
with_given node worker grant = record {
  settings = node.settings;
  moment = node.moment;
  number = grant.request.id;
  admitted = node.admitted;
  pods = changed (pod_claimed (record { worker = worker; request = grant.request })) node.pods grant.place;
}

abbrev pub give_node : NodeState → ℕ → Option Grant → NodeState
give_node node worker None = node
give_node node worker (Some grant) = with_given node worker grant

abbrev pub claim_node : NodeState → ℕ → Option ℕ → NodeState
claim_node node worker None = give_node node worker (grant_of (kept_of node))
claim_node node worker (Some place) = node

-- Report and Abandon: the claim ends now, and is the first of the pod's; a pod whose removal was answered
-- leaves
abbrev pub past_ended : ℕ → Outcome → Past → Option Held → Past
past_ended now how past None = past
past_ended now how past (Some held) = with_claim past
    (record { moment = now; request = held.request; outcome = how })

abbrev pub pod_ended : ℕ → Outcome → OnNode → OnNode
pod_ended now how p = record { past = past_ended now how p.past p.held; held = None }

abbrev pub pods_left : Settings → List OnNode → ℕ → List OnNode
pods_left settings pods place = if is_gone_slot (slice_get (map (slot_of settings) pods) place)
    then remove pods place else pods

abbrev pub end_node : NodeState → Outcome → Option ℕ → NodeState
end_node node how None = node
end_node node how (Some place) = with_pods node
    (pods_left node.settings (changed (pod_ended node.moment how) node.pods place) place)

-- Tick
abbrev pub at_moment : NodeState → ℕ → NodeState
at_moment node now = record {
  settings = node.settings;
  moment = now;
  number = node.number;
  admitted =
      node.admitted;
  pods = node.pods;
}

abbrev pub tick_node : NodeState → ℕ → NodeState
tick_node node now = if nat_lt now node.moment then node else at_moment node now

-- the node after an event, if memory suffices
abbrev pub next_node : NodeState → AgentEvent → NodeState
next_node node (Admit pod) = admit_node node pod (refusal_of (kept_of node) pod)
next_node node (Delete uid) = delete_node node (place_of uid (slots_of node))
next_node node (Claim worker) = claim_node node worker (holder_of worker (slots_of node))
next_node node (Report worker reported) =
    end_node node (outcome_of reported) (holder_of worker (slots_of node))
next_node node (Tick now) = tick_node node now
next_node node (Abandon worker) = end_node node outcome.Abandoned (holder_of worker (slots_of node))

-- the event is taken
pub record IsTaken (old : NodeState) (event : AgentEvent) (answer : Answer) (new : NodeState) : Type 0 where
  pub answer_is : answer ≡ answer_of (kept_of old) event
  pub new_is : new ≡ next_node old event

-- it would be taken, but there is no memory for it
pub record IsOutOfMemory (old : NodeState) (event : AgentEvent) (answer : Answer)
    (new : NodeState) : Type 0 where
  pub takes : takes_memory (kept_of old) event ≡ true
  pub changing : changes (answer_of (kept_of old) event) ≡ true
  pub answer_is : answer ≡ Refused Memory
  pub same : new ≡ old

abbrev pub NodeStep : NodeState → AgentEvent → Answer → NodeState → Type 0
NodeStep old event answer new = IsTaken old event answer new ⊎ IsOutOfMemory old event answer new

-- the same uids, in whatever order
pub record SameUids (known admitted : List (List ℕ)) : Type 0 where
  pub each : (uid : List ℕ) → is_known uid known ≡ is_known uid admitted
  pub count : length known ≡ length admitted

-- the kept state is what the node's claims make it
pub record StandsFor (kept : KeptNode) (node : NodeState) : Type 0 where
  pub settings : kept.settings ≡ node.settings
  pub moment : kept.moment ≡ node.moment
  pub number : kept.number ≡ node.number
  pub known : SameUids kept.known node.admitted
  pub slots : kept.slots ≡ slots_of node

-- some step with this answer leads to a node that this state stands for
pub record Comes (old : NodeState) (event : AgentEvent) (answer : Answer) (kept : KeptNode) : Type 0 where
  pub new : NodeState
  pub step : NodeStep old event answer new
  pub stands : StandsFor kept new

-- at this moment a request is due for a pod that nobody holds
pub record IsDueAt (node : NodeState) (moment : ℕ) : Type 0 where
  pub place : ℕ
  pub waiting : OnNode
  pub here : slice_get node.pods place ≡ Some waiting
  pub free : waiting.held ≡ None
  pub call : Call
  pub due : next_of (held_of node.settings waiting.past) moment ≡ Some call

-- the least such moment from now on
pub record IsLeastDue (node : NodeState) (moment : ℕ) : Type 0 where
  pub from_now : node.moment ≤ moment
  pub due : IsDueAt node moment
  pub least : (other : ℕ) → node.moment ≤ other → IsDueAt node other → moment ≤ other

abbrev pub IsNextDue : NodeState → Option ℕ → Type 0
IsNextDue node None = (moment : ℕ) → node.moment ≤ moment → ¬ IsDueAt node moment
IsNextDue node (Some moment) = IsLeastDue node moment
