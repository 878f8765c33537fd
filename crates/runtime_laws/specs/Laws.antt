-- What is true in every run of a runtime, whoever sends the requests: docs/SEMANTICS.md, "The runtime".
use Rattle.std.specs.Prelude.{◌≡◌, ◌≢◌, ◌↔◌, ⊤, ℕ, List, length, slice_get, Option, Some, IsTrue, true}
use Rattle.std.specs.List.{Any}
use Rattle.action.specs.declared.verdict.Verdict.{Verdict}
use Rattle.action.specs.Verdict.{performs_of}
use Rattle.bpf_code.specs.declared.insn.Insn.{Insn}
use Rattle.call_data.specs.declared.sys_call.SysCall.{SysCall}
use Rattle.verdict.specs.Stack.{IsJudged}
use Rattle.manifest.specs.declared.profiles.SeccompProfile.{SeccompProfile}
use Rattle.cri_msgs.specs.declared.calls.Call.{Call}
use Rattle.cri_msgs.specs.declared.calls.Call.TheVariants.{RemovePodSandbox, CreateContainer, ContainerStatus}
use Rattle.cri_msgs.specs.declared.calls.Call.TheVariants.{ContainerStatuses}
use Rattle.cri_msgs.specs.declared.keys.Key.{Key}
use Rattle.cri_msgs.specs.declared.replies.Answer.{Answer}
use Rattle.cri_msgs.specs.declared.replies.Answer.TheVariants.{Container, Done, Status, Statuses}
use Rattle.cri_msgs.specs.declared.states.Status as status
use Rattle.cri_msgs.specs.Tells.{TellsExit}
use Rattle.runtime_cell.specs.declared.calls.JudgedCall.{JudgedCall}
use Rattle.runtime_cell.specs.declared.cell.Did.{Did}
use Rattle.runtime_cell.specs.declared.cell.State.TheVariants.{Created, Running, Exited}
use Rattle.runtime_cell.specs.Cell.{Cell, FollowsScript, Making, Steps, filters_of}
use Rattle.runtime_cell.specs.Laws.{IsLater, TakesUp}
use Rattle.creation.specs.declared.files.FileAnswers.{FileAnswers}
use Rattle.creation.specs.Files.{IsMadeFrom}
use Rattle.registry.specs.Runtime.{In, Slot, id_of, slot_of}
use Rattle.registry.specs.Runtime.Slot.{Free, There, Gone}
use Rattle.registry.specs.Serves.{status_of}
use Rattle.runtime_laws.specs.Runs.{Link}
use Rattle.runtime_laws.specs.Runs.Event.{Served, Stepped}

-- the cell was under the key at some time
abbrev pub Seen : List Link → Key → Cell → Type 0
Seen ls key cell = (l : Link) × In l ls × (slot_of l.new key ≡ There cell)

-- a call was performed as the place-th entry of the record of the key's cell
pub record Performed (ls : List Link) (key : Key) (place : ℕ) (call : SysCall) : Type 0 where
  pub cell : Cell
  pub seen : Seen ls key cell
  pub entry : JudgedCall
  pub stands : slice_get cell.entries place ≡ Some entry
  pub is : entry.call ≡ call
  pub performed : entry.performed ≡ true

-- the link is a step of the key's cell which takes up the call, and all its filters together allow it
pub record TookUpAt (l : Link) (key : Key) (place : ℕ) (call : SysCall) : Type 0 where
  pub cell : Cell
  pub there : slot_of l.old key ≡ There cell
  pub did : Did
  pub event : l.event ≡ Stepped (id_of cell) (Some did)
  pub takes : TakesUp cell call
  pub place_is : place ≡ length cell.entries
  pub verdict : Verdict
  pub judged : IsJudged (filters_of cell) call verdict
  pub allowed : IsTrue (performs_of verdict.action)

abbrev pub TookUp : List Link → Key → ℕ → SysCall → Type 0
TookUp ls key place call = (l : Link) × In l ls × TookUpAt l key place call

-- the link made the cell's making, from a request's image and profile and the results of its files
pub record MakesAt (l : Link) (key : Key) (making : Making) : Type 0 where
  pub image : List ℕ
  pub choice : SeccompProfile
  pub files : FileAnswers
  pub id : ℕ
  pub event : l.event ≡ Served (CreateContainer key image choice) files (Container id)
  pub from : IsMadeFrom l.old.baseline id key.container image choice files making
  pub was_free : slot_of l.old key ≡ Free

pub record RunLaws (baseline : Option (List Insn)) (ls : List Link) : Type 0 where
  -- a call is performed exactly if a step took it up, and the filters of the start and those added before
  -- allow it
  pub confined : (key : Key) (place : ℕ) (call : SysCall)
      → Performed ls key place call ↔ TookUp ls key place call
  -- and never if those of the start deny it
  pub start_binds : (key : Key) (cell : Cell) (place : ℕ) (entry : JudgedCall) (alone : Verdict)
      → Seen ls key cell
      → slice_get cell.entries place ≡ Some entry → entry.performed ≡ true
      → IsJudged cell.making.stack entry.call alone → IsTrue (performs_of alone.action)
  -- a key has one making at all times, from one request
  pub one_making : (key : Key) (cell other : Cell) → Seen ls key cell → Seen ls key other
      → cell.making ≡ other.making
  pub made_from : (key : Key) (cell : Cell) → Seen ls key cell → (l : Link) × In l ls
      × MakesAt l key cell.making × (l.old.baseline ≡ baseline)
  -- the record is a prefix of the one outcome of the script, and is the whole if no one else ended it
  pub follows : (key : Key) (cell : Cell) → Seen ls key cell → FollowsScript cell
  -- an id is one key's at all times
  pub one_id : (key other : Key) (cell its : Cell) → Seen ls key cell → Seen ls other its
      → id_of cell ≡ id_of its → key ≡ other
  -- a cell ends with one code
  pub one_exit : (key : Key) (cell other : Cell) (code code' : ℕ) (by by' : _) → Seen ls key cell
      → Seen ls key other
      → cell.state ≡ Exited code by → other.state ≡ Exited code' by' → code ≡ code'

abbrev pub IsThere : Slot → Type 0
IsThere Free = ⊥
IsThere (There cell) = ⊤
IsThere Gone = ⊥

-- the link makes the key's cell, or starts it
abbrev pub Makes : Link → Key → Type 0
Makes l key = (¬ IsThere (slot_of l.old key)) × IsThere (slot_of l.new key)

pub record Starts (l : Link) (key : Key) : Type 0 where
  pub was : Cell
  pub old : slot_of l.old key ≡ There was
  pub created : was.state ≡ Created
  pub is : Cell
  pub new : slot_of l.new key ≡ There is
  pub running : is.state ≡ Running

abbrev pub Answered : List Link → Call → Answer → Type 0
Answered ls call answer = (l : Link) × In l ls
    × ((files : FileAnswers) × (l.event ≡ Served call files answer))

-- the link is a step of one key's cell, which has the id, and of no other
pub record StepsOne (l : Link) (id : ℕ) (did : Did) : Type 0 where
  pub key : Key
  pub cell : Cell
  pub old : slot_of l.old key ≡ There cell
  pub is : id_of cell ≡ id
  pub later : Cell
  pub new : slot_of l.new key ≡ There later
  pub steps : Steps cell did later
  pub others : (other : Key) → other ≢ key → slot_of l.new other ≡ slot_of l.old other

-- the status is reported for the key's container, by itself or in a list
abbrev pub TellsStatus : Call → Answer → Key → status.Status → Type 0
TellsStatus (ContainerStatus asked) (Status told) key status = (asked ≡ key) × (told ≡ status)
TellsStatus (ContainerStatuses uid) (Statuses listed) key status = (uid ≡ key.uid)
    × Any (λ item. (item.container ≡ key.container) × (item.status ≡ status)) listed
TellsStatus call answer key status = ⊥

-- a link, and those before it
pub record LinkLaws (l : Link) (before : List Link) : Type 0 where
  pub made_once : (key : Key) → Makes l key → (b : Link) → In b before → ¬ Makes b key
  pub started_once : (key : Key) → Starts l key → (b : Link) → In b before → ¬ Starts b key
  -- what is there is a later form of all that was there before, and what is gone stays away
  pub only_grows : (key : Key) (cell later : Cell) → Seen before key cell → slot_of l.new key ≡ There later
      → IsLater cell later
  pub gone_stays : (key : Key) → slot_of l.old key ≡ Gone → slot_of l.new key ≡ Gone
  pub steps_one : (id : ℕ) (did : Did) → l.event ≡ Stepped id (Some did) → StepsOne l id did
  -- a removed sandbox performs nothing
  pub removed_is_silent : (uid : List ℕ) → Answered before (RemovePodSandbox uid) Done → (key : Key)
      → key.uid ≡ uid
      → (place : ℕ) (call : SysCall) → ¬ TookUpAt l key place call
  pub removed_stays : (uid : List ℕ) → Answered before (RemovePodSandbox uid) Done → (key : Key)
      → key.uid ≡ uid → slot_of l.new key ≡ Gone
  -- a reported status is that of the key's cell, and so is an exit code
  pub status_is_true : (call : Call) (files : FileAnswers) (answer : Answer) (key : Key)
      (status : status.Status) → l.event ≡ Served call files answer
      → TellsStatus call answer key status → (cell : Cell) × (slot_of l.new key ≡ There cell)
      × (status ≡ status_of cell)
  pub told_is_true : (call : Call) (files : FileAnswers) (answer : Answer) (key : Key) (code : ℕ)
      → l.event ≡ Served call files answer
      → TellsExit call answer key code → (cell : Cell) × (slot_of l.new key ≡ There cell)
      × ((killed : _) × (cell.state ≡ Exited code killed))
