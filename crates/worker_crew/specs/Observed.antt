-- What is kept beside a node's book about its entries: this project's own. docs/SEMANTICS.md, "Why a
-- container waits" and "What changes".
use Rattle.std.specs.Prelude.{◌≡◌, ◌⊎◌, ℕ, ◌<◌, ◌++◌, Bool, true, false, List, [], ◌∷◌, length, Option}
use Rattle.std.specs.Prelude.{Some, None, option_map}
use Rattle.std.specs.Global.{Global}
use Rattle.std.specs.String.{string_bytes}
use Rattle.std.specs.declared.string.String.{String}
use Rattle.cri_msgs.specs.declared.calls.Call.{Call}
use Rattle.cri_msgs.specs.declared.refusals.Refusal.{Refusal}
use Rattle.cri_msgs.specs.declared.replies.Answer.{Answer}
use Rattle.cri_msgs.specs.declared.replies.Answer.TheVariants as answer
use Rattle.cri_msgs.specs.Calls.{uid_of}
use Rattle.lifecycle.specs.BackOff.{later}
use Rattle.node_watch.specs.declared.counts.Counted.{Counted}
use Rattle.node_watch.specs.declared.forms.Form.{Form}
use Rattle.node_watch.specs.declared.reasons.Reason.{Reason}
use Rattle.node_watch.specs.declared.reasons.Trouble.{Trouble}
use Rattle.node_watch.specs.declared.reasons.Trouble.TheVariants as trouble
use Rattle.node_watch.specs.declared.seen.PodSeen.{PodSeen}
use Rattle.node_watch.specs.declared.waits.PodWaits.{PodWaits}
use Rattle.node_watch.specs.Changes.{gone_line, pod_changes}
use Rattle.node_watch.specs.Counts as counts
use Rattle.node_watch.specs.Reasons.{noted, without_pod}
use Rattle.node_watch.specs.Seen.{containers_seen}
use Rattle.node_watch.specs.Waits.{waits_of}
use Rattle.node_watch.specs.WaitTexts.{wait_changes}
use Rattle.worker_pod.specs.Next.{phase_in}
use Rattle.worker_core.specs.declared.answers.Answer as core_answer
use Rattle.worker_core.specs.declared.answers.Answer.TheVariants as core
use Rattle.worker_core.specs.declared.events.AgentEvent.{AgentEvent}
use Rattle.worker_core.specs.declared.events.AgentEvent.TheVariants.{Admit, Report, Tick}
use Rattle.worker_core.specs.declared.events.Reported.{Reported}
use Rattle.worker_core.specs.declared.events.Reported.TheVariants.{Replied, Lost}
use Rattle.worker_core.specs.declared.slots.Slot.{Slot}
use Rattle.worker_core.specs.Kept.{KeptNode}
use Rattle.worker_core.specs.Slots.{claim_of, slot_of}
use Rattle.worker_crew.specs.declared.observer.Observed.{Observed}
use Rattle.worker_crew.specs.declared.observer.Observed.TheVariants.{Nothing, Reasons, Changes}
use Rattle.worker_crew.specs.declared.observer.Observed.TheVariants.{ChangesAndReasons}
use Rattle.worker_crew.specs.declared.observer.TheConstants.{MAX_CHANGES}

pub record Beside : Type 0 where
  pub observed : Observed
  -- whether counts of calls are kept
  pub counting : Bool
  -- why containers wait
  pub reasons : List Reason
  -- the counts of the containers' calls
  pub counts : List Counted
  -- the lines of changes that were not printed yet
  pub lines : List (String Global)
  -- how many lines were left out after them
  pub left_out : ℕ

-- the refusal in a report
abbrev pub refusal_in : Answer → Option Refusal
refusal_in (answer.Refused refusal) = Some refusal
refusal_in other = None

abbrev pub refusal_told : Reported → Option Refusal
refusal_told (Replied reply) = refusal_in reply.answer
refusal_told Lost = None

abbrev pub refusal_by : AgentEvent → Option Refusal
refusal_by (Report worker told) = refusal_told told
refusal_by event = None

abbrev pub lost_trouble : Option Bool → Option Trouble
lost_trouble (Some true) = Some trouble.Lost
lost_trouble (Some false) = None
lost_trouble None = None

abbrev pub trouble_by : Option Refusal → Option Bool → Option Trouble
trouble_by (Some refusal) lost = Some (trouble.Refused refusal)
trouble_by None lost = lost_trouble lost

-- Why a claim failed, if it did, from the event that ended it and from what the node keeps of the pod: a
-- refusal, or a lost call that no reply that counts has followed.
abbrev pub trouble_of : AgentEvent → Option Slot → Option Trouble
trouble_of event slot = trouble_by (refusal_by event) (option_map (λ s. s.state.lost) slot)

-- the pod in a slot as it is seen, with these counts of calls
abbrev pub IsSeen : List Counted → Slot → PodSeen → Type 0
IsSeen cs slot seen = (seen.uid ≡ slot.state.pod.uid) × (seen.phase ≡ phase_in slot.state)
    × (seen.containers.items ≡ containers_seen slot.state.pod.policy slot.state.pod.uid cs
    slot.state.pod.containers.all slot.state.tracks)

-- the text of what changed: the pod of this uid is in this slot now, and was seen like this before
abbrev pub IsChange : Form → ℕ → List Counted → List ℕ → Option Slot → Option PodSeen → List ℕ → Type 0
IsChange form moment cs uid None was text = text ≡ gone_line form moment uid
IsChange form moment cs uid (Some slot) was text = (now : PodSeen) × IsSeen cs slot now
    × (text ≡ pod_changes form moment was now)

-- why the containers of the pod in a slot wait
abbrev pub AreWaits : List Reason → ℕ → Slot → PodWaits → Type 0
AreWaits reasons moment slot waits = (waits.uid ≡ slot.state.pod.uid)
    × (waits.containers.items ≡ waits_of slot.state.pod.policy slot.state.pod.uid reasons moment
    slot.state.pod.containers.all slot.state.tracks)

-- the text on why a pod's containers wait: the pod is in this slot now, and its containers waited like this
-- before; empty for a pod that has left
abbrev pub IsWaitChange : Form → ℕ → List Reason → Option Slot → Option PodWaits → List ℕ → Type 0
IsWaitChange form moment reasons None was text = text ≡ []
IsWaitChange form moment reasons (Some slot) was text = (now : PodWaits) × AreWaits reasons moment slot now
    × (text ≡ wait_changes form moment was now)

-- Only the lines changed: this text was added after them, if there is one, or was left out and counted, for
-- lack of a place or of memory.
pub record Adds (IsText : List ℕ → Type 0) (old new : Beside) : Type 0 where
  pub observed : new.observed ≡ old.observed
  pub counting : new.counting ≡ old.counting
  pub reasons : new.reasons ≡ old.reasons
  pub counts : new.counts ≡ old.counts
  pub lines :
      (IsText [] × (new.lines ≡ old.lines) × (new.left_out ≡ old.left_out))
      ⊎ (((line : String Global) × IsText (string_bytes line) × (new.lines ≡ old.lines ++ line ∷ [])
      × (length old.lines < MAX_CHANGES) × (new.left_out ≡ old.left_out))
      ⊎ ((new.lines ≡ old.lines) × (new.left_out ≡ later old.left_out 1)))

-- what is known before a claim ends: its call, and its pod as it is seen, if changes are kept
abbrev pub IsSeenBefore : Observed → List Counted → Option Slot → Option PodSeen → Type 0
IsSeenBefore (Changes form) cs (Some slot) (Some seen) = IsSeen cs slot seen
IsSeenBefore (Changes form) cs (Some slot) None = ⊥
IsSeenBefore (ChangesAndReasons form) cs (Some slot) (Some seen) = IsSeen cs slot seen
IsSeenBefore (ChangesAndReasons form) cs (Some slot) None = ⊥
IsSeenBefore observed cs slot seen = seen ≡ None

-- and why its containers wait, if that is kept too
abbrev pub AreWaitsBefore : Observed → List Reason → ℕ → Option Slot → Option PodWaits → Type 0
AreWaitsBefore (ChangesAndReasons form) reasons moment (Some slot) (Some waits) =
    AreWaits reasons moment slot waits
AreWaitsBefore (ChangesAndReasons form) reasons moment (Some slot) None = ⊥
AreWaitsBefore observed reasons moment slot waits = waits ≡ None

pub record IsBefore (beside : Beside) (moment : ℕ) (node : KeptNode) (worker : ℕ) (call : Call)
    (seen : Option PodSeen) (waits : Option PodWaits) : Type 0 where
  pub claimed : option_map (λ request. request.call) (claim_of worker node.slots) ≡ Some call
  pub pod : IsSeenBefore beside.observed beside.counts (slot_of (uid_of call) node.slots) seen
  pub why : AreWaitsBefore beside.observed beside.reasons moment (slot_of (uid_of call) node.slots) waits

-- the reasons are those after this end of a call, or, out of memory, unchanged
pub record Notes (noted : List Reason) (old new : Beside) : Type 0 where
  pub observed : new.observed ≡ old.observed
  pub counting : new.counting ≡ old.counting
  pub counts : new.counts ≡ old.counts
  pub lines : new.lines ≡ old.lines
  pub left_out : new.left_out ≡ old.left_out
  pub reasons : (new.reasons ≡ noted) ⊎ (new.reasons ≡ old.reasons)

-- the reasons after the end of a call; those of a pod that has left are forgotten
abbrev pub reasons_behind : ℕ → Call → Option Trouble → Option (List ℕ) → Option Slot → List Reason
    → List Reason
reasons_behind moment call trouble cause None reasons = without_pod (uid_of call) reasons
reasons_behind moment call trouble cause (Some slot) reasons = noted moment call trouble cause reasons

-- the report on the end of a call: what changed of its pod, and then why the pod's containers wait
pub record EndsReported (form : Form) (moment : ℕ) (call : Call) (trouble : Option Trouble)
    (cause : Option (List ℕ)) (slot : Option Slot) (seen : Option PodSeen) (waits : Option PodWaits) (old new : Beside) : Type 0 where
  pub changed : Beside
  pub noted : Beside
  pub change : Adds (IsChange form moment old.counts (uid_of call) slot seen) old changed
  pub reasons : Notes (reasons_behind moment call trouble cause slot changed.reasons) changed noted
  pub wait : Adds (IsWaitChange form moment noted.reasons slot waits) noted new

-- the counts after the end of a call, if they are kept; those of a pod that has left are forgotten
abbrev pub counts_told : Call → AgentEvent → List Counted → List Counted
counts_told call (Report worker (Replied reply)) cs = counts.counts_after call reply.answer cs
counts_told call event cs = cs

abbrev pub counts_behind : Bool → Call → AgentEvent → Option Slot → List Counted → List Counted
counts_behind false call event slot cs = cs
counts_behind true call event None cs = counts.without_pod (uid_of call) cs
counts_behind true call event (Some slot) cs = counts_told call event cs

-- the counts are these, or, out of memory, unchanged
pub record CountsTo (counted : List Counted) (old new : Beside) : Type 0 where
  pub observed : new.observed ≡ old.observed
  pub counting : new.counting ≡ old.counting
  pub reasons : new.reasons ≡ old.reasons
  pub lines : new.lines ≡ old.lines
  pub left_out : new.left_out ≡ old.left_out
  pub counts : (new.counts ≡ counted) ⊎ (new.counts ≡ old.counts)

-- the end of a claim at this moment, by an entry with this event, for this cause if it is known, with this
-- node after it; the counts are already updated
abbrev pub EndsCounted : Observed → ℕ → KeptNode → AgentEvent → Option (List ℕ) → Call → Option PodSeen
    → Option PodWaits → Beside → Beside → Type 0
EndsCounted Nothing moment node event cause call seen waits old new = new ≡ old
EndsCounted Reasons moment node event cause call seen waits old new =
    Notes (noted moment call (trouble_of event (slot_of (uid_of call) node.slots)) cause old.reasons) old new
EndsCounted (Changes form) moment node event cause call seen waits old new =
    Adds (IsChange form moment old.counts (uid_of call) (slot_of (uid_of call) node.slots) seen) old new
EndsCounted (ChangesAndReasons form) moment node event cause call seen waits old new =
    EndsReported form moment call (trouble_of event (slot_of (uid_of call) node.slots)) cause
    (slot_of (uid_of call) node.slots) seen waits old new

-- the same, with the update of the counts first
pub record Ends (observed : Observed) (moment : ℕ) (node : KeptNode) (event : AgentEvent)
    (cause : Option (List ℕ)) (call : Call) (seen : Option PodSeen) (waits : Option PodWaits)
    (old new : Beside) : Type 0 where
  pub counted : Beside
  pub counts : CountsTo (counts_behind old.counting call event (slot_of (uid_of call) node.slots) old.counts)
      old counted
  pub rest : EndsCounted observed moment node event cause call seen waits counted new

-- the admission of a pod
abbrev pub IsFirst : Form → ℕ → List Counted → Option Slot → List ℕ → Type 0
IsFirst form moment cs None text = ⊥
IsFirst form moment cs (Some slot) text = (now : PodSeen) × IsSeen cs slot now
    × (text ≡ pod_changes form moment None now)

abbrev pub AdmitsSeen : Form → ℕ → Option Slot → Beside → Beside → Type 0
AdmitsSeen form moment None old new = new ≡ old
AdmitsSeen form moment (Some slot) old new = Adds (IsFirst form moment old.counts (Some slot)) old new

abbrev pub AdmitsWaits : Form → ℕ → Option Slot → Beside → Beside → Type 0
AdmitsWaits form moment None old new = new ≡ old
AdmitsWaits form moment (Some slot) old new =
    Adds (IsWaitChange form moment old.reasons (Some slot) None) old new

pub record AdmitsReported (form : Form) (moment : ℕ) (slot : Option Slot) (old new : Beside) : Type 0 where
  pub changed : Beside
  pub change : AdmitsSeen form moment slot old changed
  pub wait : AdmitsWaits form moment slot changed new

abbrev pub Admits : Observed → ℕ → Option Slot → Beside → Beside → Type 0
Admits Nothing moment slot old new = new ≡ old
Admits Reasons moment slot old new = new ≡ old
Admits (Changes form) moment slot old new = AdmitsSeen form moment slot old new
Admits (ChangesAndReasons form) moment slot old new = AdmitsReported form moment slot old new

-- what worker 0 did: the admission of a pod is a change
abbrev pub Observes : Observed → ℕ → KeptNode → AgentEvent → core_answer.Answer → Beside → Beside → Type 0
Observes observed moment node (Admit pod) core.Done old new =
    Admits observed moment (slot_of pod.uid node.slots) old new
Observes observed moment node event answer old new = new ≡ old

-- the number of the last entry that advanced the time
abbrev pub ticked_by : AgentEvent → ℕ → ℕ → ℕ
ticked_by (Tick now) number before = number
ticked_by event number before = before
