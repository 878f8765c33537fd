-- Laws of every run of a node: this project's own, over the order of init containers and restarts of
-- Kubernetes 1.27, pod lifecycle. docs/SEMANTICS.md, "The agent: the node".
use Rattle.std.specs.Prelude.{◌≡◌, ◌⊎◌, ℕ, ◌+◌, ◌<◌, ◌≤◌, nat_lt, Bool, true, false, List, [], ◌∷◌, length}
use Rattle.std.specs.Prelude.{Option, Some, None, slice_get}
use Rattle.lifecycle.specs.BackOff.{Run, last_of, ready_at}
use Rattle.lifecycle.specs.Restart.{may_restart}
use Rattle.lifecycle.specs.declared.track.Track.{Track}
use Rattle.manifest.specs.declared.containers.Container.{Container}
use Rattle.manifest.specs.declared.pods.Pod.{Pod}
use Rattle.manifest.specs.declared.profiles.SeccompProfile.{SeccompProfile}
use Rattle.profile_pick.specs.Choice.{choice_of}
use Rattle.cri_msgs.specs.declared.calls.Call.TheVariants.{CreateContainer}
use Rattle.cri_msgs.specs.declared.calls.Request.{Request}
use Rattle.cri_msgs.specs.declared.keys.Key.{Key}
use Rattle.worker_pod.specs.declared.settings.Outcome.{Outcome}
use Rattle.worker_pod.specs.declared.settings.Outcome.TheVariants as outcome
use Rattle.worker_pod.specs.declared.settings.Settings.{Settings}
use Rattle.cri_msgs.specs.Calls.{uid_of}
use Rattle.worker_pod.specs.Laws.{AreOf, Creation, RunReported, RunsReported, key_named}
use Rattle.worker_pod.specs.Next.{is_gone, next_of}
use Rattle.worker_pod.specs.Past.{Claimed, Kept, held_of, read_off}
use Rattle.worker_core.specs.declared.answers.Answer.{Answer}
use Rattle.worker_core.specs.declared.answers.Answer.TheVariants.{Done, Claimed as Given, Nothing}
use Rattle.worker_core.specs.declared.events.AgentEvent.{AgentEvent}
use Rattle.worker_core.specs.declared.events.AgentEvent.TheVariants.{Admit, Claim, Report, Abandon}
use Rattle.worker_core.specs.declared.limits.TheConstants.{LAST_NUMBER}
use Rattle.worker_core.specs.declared.slots.Held.{Held}
use Rattle.worker_core.specs.Nodes.{IsDueAt, NodeState, NodeStep, OnNode, empty_node, pod_ended}
use Rattle.worker_core.specs.Slots.{outcome_of}

-- what happened: the node before, the event, the answer, the node after
pub record NodeLink : Type 0 where
  pub old : NodeState
  pub event : AgentEvent
  pub answer : Answer
  pub new : NodeState

-- a run is a list of links, the newest first; what follows a link is its past
abbrev pub node_now : Settings → List NodeLink → NodeState
node_now settings [] = empty_node settings
node_now settings (l ∷ ls) = l.new

abbrev pub IsNodeRun : Settings → List NodeLink → Type 0
IsNodeRun settings [] = Unit {0}
IsNodeRun settings (l ∷ ls) = (l.old ≡ node_now settings ls) × NodeStep l.old l.event l.answer l.new
    × IsNodeRun settings ls

-- some link of the list has the property
abbrev pub Happened : (NodeLink → Type 0) → List NodeLink → Type 0
Happened P [] = ⊥
Happened P (l ∷ ls) = P l ⊎ Happened P ls

-- some claim of the list is this one
abbrev pub Among : Claimed → List Claimed → Type 0
Among c [] = ⊥
Among c (d ∷ ds) = (d ≡ c) ⊎ Among c ds

-- the pod is admitted
pub record Admits (pod : Pod) (l : NodeLink) : Type 0 where
  pub event_is : l.event ≡ Admit pod
  pub done : l.answer ≡ Done

-- a pod of this uid is admitted
pub record AdmitsUid (uid : List ℕ) (l : NodeLink) : Type 0 where
  pub pod : Pod
  pub admits : Admits pod l
  pub of_uid : pod.uid ≡ uid

-- the worker is given this request of the pod of this uid
pub record Gives (worker : ℕ) (uid : List ℕ) (request : Request) (l : NodeLink) : Type 0 where
  pub event_is : l.event ≡ Claim worker
  pub given : l.answer ≡ Given uid request.id request

-- the pod at this place, which is of this uid, is held by the worker by this request
pub record HoldsAt (node : NodeState) (place worker : ℕ) (uid : List ℕ) (request : Request) : Type 0 where
  pub pod : OnNode
  pub here : slice_get node.pods place ≡ Some pod
  pub of_uid : pod.past.pod.uid ≡ uid
  pub by : pod.held ≡ Some (record { worker = worker; request = request })

-- the held claims of a node
pub record Holds (node : NodeState) (worker : ℕ) (uid : List ℕ) (request : Request) : Type 0 where
  pub place : ℕ
  pub at : HoldsAt node place worker uid request

-- the request by which a worker holds a pod, if it holds one
abbrev pub IsClaimOf : NodeState → ℕ → Option Request → Type 0
IsClaimOf node worker None = (uid : List ℕ) (request : Request) → ¬ Holds node worker uid request
IsClaimOf node worker (Some request) = (uid : List ℕ) × Holds node worker uid request

-- the event ends the worker's claim in this way
abbrev pub EndsBy : AgentEvent → ℕ → Outcome → Type 0
EndsBy (Report its reported) worker how = (its ≡ worker) × (outcome_of reported ≡ how)
EndsBy (Abandon its) worker how = (its ≡ worker) × (outcome.Abandoned ≡ how)
EndsBy event worker how = ⊥

-- the claim of the pod of this uid ends: a worker that held the pod by its request reported the outcome
pub record Ends (uid : List ℕ) (c : Claimed) (l : NodeLink) : Type 0 where
  pub worker : ℕ
  pub held : Holds l.old worker uid c.request
  pub told : EndsBy l.event worker c.outcome
  pub now : c.moment ≡ l.old.moment
  pub done : l.answer ≡ Done

-- init containers are the first of the manifest's list
abbrev pub is_init : Pod → ℕ → Bool
is_init pod place = nat_lt place pod.containers.inits

-- at any moment
pub record NodeLaws (settings : Settings) (ls : List NodeLink) : Type 0 where
  -- a node keeps its settings
  pub settings_stay : (node_now settings ls).settings ≡ settings
  -- a pod is held by at most one worker, and by one request
  pub one_worker : (worker other : ℕ) (uid : List ℕ) (request another : Request)
      → Holds (node_now settings ls) worker uid request → Holds (node_now settings ls) other uid another
      → (worker ≡ other) × (request ≡ another)
  -- a worker holds at most one pod
  pub one_pod : (worker : ℕ) (uid another : List ℕ) (request its : Request)
      → Holds (node_now settings ls) worker uid request → Holds (node_now settings ls) worker another its
      → (uid ≡ another) × (request ≡ its)
  -- what is held was given, and each pod was admitted
  pub given : (worker : ℕ) (uid : List ℕ) (request : Request)
      → Holds (node_now settings ls) worker uid request → Happened (Gives worker uid request) ls
  pub admitted : (at : ℕ) (p : OnNode) → slice_get (node_now settings ls).pods at ≡ Some p
      → Happened (Admits p.past.pod) ls
  -- each request for a pod is about the pod
  pub held_is_about : (worker : ℕ) (uid : List ℕ) (request : Request)
      → Holds (node_now settings ls) worker uid request → uid_of request.call ≡ uid
  pub claims_are_about : (at : ℕ) (p : OnNode) → slice_get (node_now settings ls).pods at ≡ Some p
      → AreOf p.past.pod.uid p.past.claims
  -- each ended claim of a pod was held by a worker that reported how it ended
  pub ended : (at : ℕ) (p : OnNode) (c : Claimed) → slice_get (node_now settings ls).pods at ≡ Some p
      → Among c p.past.claims → Happened (Ends p.past.pod.uid c) ls
  -- each container of the manifest has its track at its place, which shows whether it is an init container
  pub tracked : (at : ℕ) (p : OnNode) → slice_get (node_now settings ls).pods at ≡ Some p
      → length (read_off p.past.pod (node_now settings ls).settings p.past.claims).tracks
      ≡ length p.past.pod.containers.all
  pub inits : (at : ℕ) (p : OnNode) → slice_get (node_now settings ls).pods at ≡ Some p
      → (place : ℕ) (track : Track) → slice_get
      (read_off p.past.pod (node_now settings ls).settings p.past.claims).tracks place ≡ Some track
      → track.init ≡ is_init p.past.pod place
  -- the run at each place, from 0, was reported by a reply to a claim of the container's attempt of that
  -- number
  pub numbered : (at : ℕ) (p : OnNode) → slice_get (node_now settings ls).pods at ≡ Some p
      → (place : ℕ) (track : Track) (container : Container)
      → slice_get (read_off p.past.pod (node_now settings ls).settings p.past.claims).tracks place
      ≡ Some track
      → slice_get p.past.pod.containers.all place ≡ Some container
      → (k : ℕ) (run : Run) → slice_get track.runs k ≡ Some run
      → RunReported p.past.pod.uid p.past.claims container.name k run
  -- and if the container's attempt ended, the last run is that attempt's
  pub told : (at : ℕ) (p : OnNode) → slice_get (node_now settings ls).pods at ≡ Some p
      → (place : ℕ) (track : Track) (container : Container)
      → slice_get (read_off p.past.pod (node_now settings ls).settings p.past.claims).tracks place
      ≡ Some track
      → slice_get p.past.pod.containers.all place ≡ Some container
      → RunsReported p.past.pod.uid p.past.claims container.name track

abbrev pub state_of : NodeState → OnNode → Kept
state_of node p = held_of node.settings p.past

-- a worker that holds nothing is given the pod that waited longest of those that nobody holds and for which a
-- request is due
pub record GivenLaw (old : NodeState) (worker : ℕ) (uid : List ℕ) (request : Request) : Type 0 where
  pub place : ℕ
  pub pod : OnNode
  pub here : slice_get old.pods place ≡ Some pod
  pub of_uid : pod.past.pod.uid ≡ uid
  pub free : pod.held ≡ None
  pub idle : (another : List ℕ) (its : Request) → ¬ Holds old worker another its
  pub due : next_of (state_of old pod) old.moment ≡ Some request.call
  pub number : request.id ≡ old.number + 1
  pub longest : (at : ℕ) (other : OnNode) → slice_get old.pods at ≡ Some other → other.held ≡ None
      → ¬ (next_of (state_of old other) old.moment ≡ None)
      → ((state_of old pod).worked ≤ (state_of old other).worked)
      × (at < place → (state_of old pod).worked < (state_of old other).worked)

-- attempt k is over: its run is the node's last one, it was reported, another is allowed, and the back-off is
-- over
pub record Again (node : NodeState) (p : OnNode) (place : ℕ) (track : Track) (container : Container)
    (k : ℕ) : Type 0 where
  pub run : Run
  pub last : last_of track.runs ≡ Some run
  pub was_told : RunReported p.past.pod.uid p.past.claims container.name k run
  pub may : may_restart p.past.pod.policy (is_init p.past.pod place) run.code ≡ true
  pub ready : ready_at track.runs ≤ node.moment

-- the node's last run of this container was reported, and ended with code 0
pub record EndedWithZero (node : NodeState) (p : OnNode) (place : ℕ) (container : Container) : Type 0 where
  pub track : Track
  pub here : slice_get (state_of node p).tracks place ≡ Some track
  pub run : Run
  pub last : last_of track.runs ≡ Some run
  pub zero : run.code ≡ 0
  pub attempt : ℕ
  pub was_told : RunReported p.past.pod.uid p.past.claims container.name attempt run

-- if an attempt at a container is made: the request follows the manifest; the init containers, for one of
-- them those before it, have ended with code 0; and a further attempt comes after one that ended
pub record CreationLaw (old : NodeState) (uid : List ℕ) (key : Key) (image : List ℕ)
    (profile : SeccompProfile) : Type 0 where
  pub place : ℕ
  pub pod : OnNode
  pub here : slice_get old.pods place ≡ Some pod
  pub of_uid : pod.past.pod.uid ≡ uid
  -- no container is made for a deleted pod
  pub undeleted : pod.past.deleted ≡ false
  pub creation : Creation (state_of old pod) old.moment key image profile
  pub container_is : slice_get pod.past.pod.containers.all creation.place ≡ Some creation.container
  pub key_is : key ≡ key_named uid creation.container.name key.container.attempt
  pub profile_is : profile ≡ choice_of pod.past.pod.profile creation.container old.settings.seccomp_default
  pub inits : (at : ℕ) (container : Container) → slice_get pod.past.pod.containers.all at ≡ Some container
      → is_init pod.past.pod at ≡ true
      → (is_init pod.past.pod creation.place ≡ true → at < creation.place)
      → EndedWithZero old pod at container
  pub again : (k : ℕ) → key.container.attempt ≡ k + 1
      → Again old pod creation.place creation.track creation.container k

-- the pod is still on the node
pub record Stays (new : NodeState) (p : OnNode) : Type 0 where
  pub place : ℕ
  pub now : OnNode
  pub here : slice_get new.pods place ≡ Some now
  pub same : now.past.pod ≡ p.past.pod

-- the worker that held the pod reported how its claim ended, and with that claim the removal of its sandbox
-- was answered
pub record HasLeft (old : NodeState) (event : AgentEvent) (p : OnNode) : Type 0 where
  pub held : Held
  pub by : p.held ≡ Some held
  pub how : Outcome
  pub told : EndsBy event held.worker how
  pub gone : is_gone (state_of old (pod_ended old.moment how p)).sandbox ≡ true

-- at each step
pub record NodeLinkLaws (l : NodeLink) (before : List NodeLink) : Type 0 where
  -- a uid is admitted once
  pub admitted_once : (pod : Pod) → Admits pod l → ¬ Happened (AdmitsUid pod.uid) before
  -- a number is used once
  pub number_once : (worker other : ℕ) (uid another : List ℕ) (request its : Request)
      → Gives worker uid request l → Happened (Gives other another its) before → its.id < request.id
  pub given : (worker : ℕ) (uid : List ℕ) (request : Request) → Gives worker uid request l
      → GivenLaw l.old worker uid request
  -- only a worker that claims is given a request
  pub asked : (uid : List ℕ) (number : ℕ) (request : Request) → l.answer ≡ Given uid number request
      → (worker : ℕ) × Gives worker uid request l
  -- if a worker is given nothing, nothing is due, or there is no number left
  pub nothing : (worker : ℕ) → l.event ≡ Claim worker → l.answer ≡ Nothing → l.old.number < LAST_NUMBER
      → ¬ IsDueAt l.old l.old.moment
  pub creation : (worker : ℕ) (uid : List ℕ) (request : Request) → Gives worker uid request l
      → (key : Key) (image : List ℕ) (profile : SeccompProfile)
      → request.call ≡ CreateContainer key image profile
      → CreationLaw l.old uid key image profile
  -- a pod leaves only if the removal of its sandbox was answered
  pub remains : (at : ℕ) (p : OnNode) → slice_get l.old.pods at ≡ Some p
      → Stays l.new p ⊎ HasLeft l.old l.event p
