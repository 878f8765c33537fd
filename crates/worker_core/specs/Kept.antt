-- What a node's agent keeps, its answer to an event, and what it keeps afterwards: this project's own.
-- docs/SEMANTICS.md, "The agent: the node".
use Rattle.std.specs.Prelude.{◌≡◌, ◌⊎◌, ℕ, ◌+◌, nat_le, nat_lt, Bool, true, false, ◌||◌, if◌then◌else◌, List}
use Rattle.std.specs.Prelude.{[], ◌∷◌, ◌++◌, length, Option, Some, None, slice_get}
use Rattle.manifest.specs.declared.pods.Pod.{Pod}
use Rattle.std.specs.Option.{option_map}
use Rattle.cri_msgs.specs.declared.calls.Request.{Request}
use Rattle.worker_pod.specs.declared.settings.Outcome.{Outcome}
use Rattle.worker_pod.specs.declared.settings.Outcome.TheVariants as outcome
use Rattle.worker_pod.specs.declared.settings.Settings.{Settings}
use Rattle.worker_pod.specs.Next.{next_of, numbered}
use Rattle.worker_core.specs.declared.answers.Answer.{Answer}
use Rattle.worker_core.specs.declared.answers.Answer.TheVariants.{Done, Claimed, Nothing, Refused}
use Rattle.worker_core.specs.declared.answers.NodeRefusal.{NodeRefusal}
use Rattle.worker_core.specs.declared.answers.NodeRefusal.TheVariants.{Full, KnownUid, NoSuchPod, NotYours}
use Rattle.worker_core.specs.declared.answers.NodeRefusal.TheVariants.{ClockBack, Memory}
use Rattle.worker_core.specs.declared.claims.Grant.{Grant}
use Rattle.worker_core.specs.declared.events.AgentEvent.{AgentEvent}
use Rattle.worker_core.specs.declared.events.AgentEvent.TheVariants.{Admit, Delete, Claim, Report, Tick}
use Rattle.worker_core.specs.declared.events.AgentEvent.TheVariants.{Abandon}
use Rattle.worker_core.specs.declared.limits.TheConstants.{LAST_NUMBER, MAX_PODS, MAX_UIDS}
use Rattle.worker_core.specs.declared.slots.Slot.{Slot}
use Rattle.worker_core.specs.declared.turns.Turn.{Turn}
use Rattle.worker_core.specs.Known.{is_known, with_uid}
use Rattle.worker_core.specs.Slots.{changed, claimed_by, deleted, ended_at, fresh_slot, holder_of, outcome_of}
use Rattle.worker_core.specs.Slots.{place_of}
use Rattle.worker_core.specs.Turns.{longest}

pub record KeptNode : Type 0 where
  pub settings : Settings
  pub moment : ℕ
  -- the number of the last request that was given, 0 for none
  pub number : ℕ
  -- the uids that were ever admitted
  pub known : List (List ℕ)
  -- its pods, in order of admission
  pub slots : List Slot

abbrev pub fresh_node : Settings → KeptNode
fresh_node settings = record { settings = settings; moment = 0; number = 0; known = []; slots = [] }

-- Admit: a uid that was admitted before is reported first
abbrev pub is_full : KeptNode → Bool
is_full kept = nat_le MAX_PODS (length kept.slots) || nat_le MAX_UIDS (length kept.known)

abbrev pub refusal_of : KeptNode → Pod → Option NodeRefusal
refusal_of kept pod = if is_known pod.uid kept.known then Some KnownUid else if is_full kept then Some Full
    else None

abbrev pub admit_answer : Option NodeRefusal → Answer
admit_answer None = Done
admit_answer (Some refusal) = Refused refusal

abbrev pub with_pod : KeptNode → Pod → KeptNode
with_pod kept pod = record {
  settings = kept.settings;
  moment = kept.moment;
  number = kept.number;
  known = with_uid pod.uid kept.known;
  slots = kept.slots ++ fresh_slot pod kept.settings ∷ [];
}

abbrev pub after_admit : KeptNode → Pod → Option NodeRefusal → KeptNode
after_admit kept pod None = with_pod kept pod
after_admit kept pod (Some refusal) = kept

-- Delete
abbrev pub delete_answer : Option ℕ → Answer
delete_answer None = Refused NoSuchPod
delete_answer (Some place) = Done

abbrev pub with_slots : KeptNode → List Slot → KeptNode
with_slots kept slots = record {
  settings = kept.settings;
  moment = kept.moment;
  number = kept.number;
  known =
      kept.known;
  slots = slots;
}

abbrev pub after_delete : KeptNode → Option ℕ → KeptNode
after_delete kept None = kept
after_delete kept (Some place) = with_slots kept (changed deleted kept.slots place)

-- Claim: the worker gets the request of the pod that was worked on longest ago, under the next number
abbrev pub grant_with : ℕ → List ℕ → Option Request → Option Grant
grant_with place uid None = None
grant_with place uid (Some request) = Some (record { place = place; uid = uid; request = request })

abbrev pub grant_of_slot : KeptNode → ℕ → Option Slot → Option Grant
grant_of_slot kept place None = None
grant_of_slot kept place (Some slot) =
    grant_with place slot.state.pod.uid (option_map (numbered (kept.number + 1))
    (next_of slot.state kept.moment))

abbrev pub grant_of_turn : KeptNode → Option Turn → Option Grant
grant_of_turn kept None = None
grant_of_turn kept (Some turn) = grant_of_slot kept turn.place (slice_get kept.slots turn.place)

-- after the last number nothing is given
abbrev pub grant_of : KeptNode → Option Grant
grant_of kept = if nat_lt kept.number LAST_NUMBER then grant_of_turn kept (longest kept.moment kept.slots)
    else None

abbrev pub grant_answer : Option Grant → Answer
grant_answer None = Nothing
grant_answer (Some grant) = Claimed grant.uid grant.request.id grant.request

-- a worker that holds a pod is given none
abbrev pub claim_answer : KeptNode → Option ℕ → Answer
claim_answer kept None = grant_answer (grant_of kept)
claim_answer kept (Some place) = Refused NotYours

abbrev pub with_grant : KeptNode → ℕ → Grant → KeptNode
with_grant kept worker grant = record {
  settings = kept.settings;
  moment = kept.moment;
  number = grant.request.id;
  known = kept.known;
  slots = changed (claimed_by (record { worker = worker; request = grant.request })) kept.slots grant.place;
}

abbrev pub after_grant : KeptNode → ℕ → Option Grant → KeptNode
after_grant kept worker None = kept
after_grant kept worker (Some grant) = with_grant kept worker grant

abbrev pub after_claim : KeptNode → ℕ → Option ℕ → KeptNode
after_claim kept worker None = after_grant kept worker (grant_of kept)
after_claim kept worker (Some place) = kept

-- Report and Abandon: the claim of the pod that the worker holds ends
abbrev pub end_answer : Option ℕ → Answer
end_answer None = Refused NotYours
end_answer (Some place) = Done

abbrev pub after_end : KeptNode → Outcome → Option ℕ → KeptNode
after_end kept how None = kept
after_end kept how (Some place) = with_slots kept (ended_at kept.moment how kept.slots place)

-- Tick
abbrev pub tick_answer : KeptNode → ℕ → Answer
tick_answer kept now = if nat_lt now kept.moment then Refused ClockBack else Done

abbrev pub with_moment : KeptNode → ℕ → KeptNode
with_moment kept now = record {
  settings = kept.settings;
  moment = now;
  number = kept.number;
  known =
      kept.known;
  slots = kept.slots;
}

abbrev pub after_tick : KeptNode → ℕ → KeptNode
after_tick kept now = if nat_lt now kept.moment then kept else with_moment kept now

-- the answer, if memory suffices
abbrev pub answer_of : KeptNode → AgentEvent → Answer
answer_of kept (Admit pod) = admit_answer (refusal_of kept pod)
answer_of kept (Delete uid) = delete_answer (place_of uid kept.slots)
answer_of kept (Claim worker) = claim_answer kept (holder_of worker kept.slots)
answer_of kept (Report worker reported) = end_answer (holder_of worker kept.slots)
answer_of kept (Tick now) = tick_answer kept now
answer_of kept (Abandon worker) = end_answer (holder_of worker kept.slots)

-- and what is kept afterwards
abbrev pub after_event : KeptNode → AgentEvent → KeptNode
after_event kept (Admit pod) = after_admit kept pod (refusal_of kept pod)
after_event kept (Delete uid) = after_delete kept (place_of uid kept.slots)
after_event kept (Claim worker) = after_claim kept worker (holder_of worker kept.slots)
after_event kept (Report worker reported) = after_end kept (outcome_of reported) (holder_of worker kept.slots)
after_event kept (Tick now) = after_tick kept now
after_event kept (Abandon worker) = after_end kept outcome.Abandoned (holder_of worker kept.slots)

-- with these answers something changes
abbrev pub changes : Answer → Bool
changes Done = true
changes (Claimed uid number request) = true
changes Nothing = false
changes (Refused refusal) = false

-- the events that may take memory
abbrev pub takes_memory : KeptNode → AgentEvent → Bool
takes_memory kept (Admit pod) = true
takes_memory kept (Claim worker) = true
takes_memory kept event = false

-- out of memory is reported last, and changes nothing
pub record LacksMemory (due : Answer) (may : Bool) (old : KeptNode) (answer : Answer)
    (new : KeptNode) : Type 0 where
  pub takes : may ≡ true
  pub changing : changes due ≡ true
  pub answer_is : answer ≡ Refused Memory
  pub same : new ≡ old

abbrev pub Takes : Answer → KeptNode → Bool → KeptNode → Answer → KeptNode → Type 0
Takes due next may old answer new = ((answer ≡ due) × (new ≡ next)) ⊎ LacksMemory due may old answer new

abbrev pub KeptStep : KeptNode → AgentEvent → Answer → KeptNode → Type 0
KeptStep old event = Takes (answer_of old event) (after_event old event) (takes_memory old event) old

-- the predicted answer of a step; a request that would be given is copied
pub record LacksCopy (due : Answer) (may : Bool) (answer : Answer) : Type 0 where
  pub takes : may ≡ true
  pub changing : changes due ≡ true
  pub answer_is : answer ≡ Refused Memory

abbrev pub gives_request : AgentEvent → Bool
gives_request (Claim worker) = true
gives_request event = false

abbrev pub Foresees : KeptNode → AgentEvent → Answer → Type 0
Foresees kept event answer = (answer ≡ answer_of kept event) ⊎ LacksCopy (answer_of kept event)
    (gives_request event) answer
