-- What a worker of the agent does, by its receipts: this project's own. docs/SEMANTICS.md, "The agent:
-- workers".
use Rattle.std.specs.Prelude.{◌≡◌, ℕ, ◌<◌, List, [], ◌∷◌, ◌++◌, Option, Some, None, Result, Ok, Err}
use Rattle.cri_frames.specs.declared.faults.Lost.{Lost}
use Rattle.cri_msgs.specs.declared.calls.Request.{Request}
use Rattle.cri_msgs.specs.declared.replies.Reply.{Reply}
use Rattle.worker_core.specs.declared.answers.Answer.{Answer}
use Rattle.worker_core.specs.declared.answers.Answer.TheVariants.{Claimed, Refused}
use Rattle.worker_core.specs.declared.answers.NodeRefusal.{NodeRefusal}
use Rattle.worker_core.specs.declared.events.AgentEvent.{AgentEvent}
use Rattle.worker_core.specs.declared.events.AgentEvent.TheVariants.{Claim, Report}
use Rattle.worker_core.specs.declared.events.Reported.{Reported}
use Rattle.worker_core.specs.declared.events.Reported.TheVariants as reported
use Rattle.node_lock.specs.Receipts.{Received}

-- the request that a worker makes, from the answer to its claim
abbrev pub request_of : Answer → Option Request
request_of (Claimed uid number request) = Some request
request_of answer = None

-- and from an entry: only a claim has one
abbrev pub claim_in : AgentEvent → Answer → Option Request
claim_in (Claim worker) answer = request_of answer
claim_in event answer = None

-- the reported result of the claim's call is one that the peer may return for its request
abbrev pub MayTell : (Request → Result Reply Lost → Type 0) → Option Request → Reported → Type 0
MayTell may None told = ⊥
MayTell may (Some request) (reported.Replied reply) = may request (Ok reply)
MayTell may (Some request) reported.Lost = (lost : Lost) × may request (Err lost)

-- a report follows its claim
abbrev pub MayFollow : (Request → Result Reply Lost → Type 0) → Option Request → AgentEvent → Type 0
MayFollow may before (Report worker told) = MayTell may before told
MayFollow may before event = Unit {0}

-- why the node refused an event, if it did
abbrev pub refused_by : Answer → Option NodeRefusal
refused_by (Refused refusal) = Some refusal
refused_by answer = None

-- an event of the worker became an entry, its receipt is the last, and the result is why the node refused it
pub record Recorded (worker : ℕ) (event : AgentEvent) (told : Option NodeRefusal)
    (old new : List Received) : Type 0 where
  pub receipt : Received
  pub last : new ≡ old ++ receipt ∷ []
  pub worker_is : receipt.entry.worker ≡ worker
  pub event_is : receipt.entry.event ≡ event
  pub refused : told ≡ refused_by receipt.entry.answer

-- starting with a claim's request and the number of its entry: the numbers rise, the entries are the
-- worker's, and each report comes directly after its claim
abbrev pub IsWorkFrom : (Request → Result Reply Lost → Type 0) → ℕ → Option Request → ℕ → List Received
    → Type 0
IsWorkFrom may worker before low [] = Unit {0}
IsWorkFrom may worker before low (r ∷ rs) =
    (low < r.number) × (r.entry.worker ≡ worker) × MayFollow may before r.entry.event
    × IsWorkFrom may worker (claim_in r.entry.event r.entry.answer) r.number rs

abbrev pub IsWork : (Request → Result Reply Lost → Type 0) → ℕ → List Received → Type 0
IsWork may worker receipts = IsWorkFrom may worker None 0 receipts

-- the last number and the last claim
abbrev pub number_after : ℕ → List Received → ℕ
number_after low [] = low
number_after low (r ∷ rs) = number_after r.number rs

abbrev pub claim_after : Option Request → List Received → Option Request
claim_after before [] = before
claim_after before (r ∷ rs) = claim_after (claim_in r.entry.event r.entry.answer) rs
