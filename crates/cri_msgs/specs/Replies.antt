-- Replies as JSON trees, field by field: this project's own, over the answers of CRI v1.
use Rattle.std.specs.Prelude.{◌≡◌, ◌<◌, ◌≤◌, ℕ, List, length, codes, Some, None}
use Rattle.serde_json.specs.Data.{Data}
use Rattle.json_tree.specs.Tree.{tree_of, list, member, object, text, whole}
use Rattle.json_tree.specs.Reading.{Both, HasField}
use Rattle.cri_msgs.specs.declared.lists.ListedContainer.{ListedContainer}
use Rattle.cri_msgs.specs.declared.lists.ListedStatus.{ListedStatus}
use Rattle.cri_msgs.specs.declared.lists.TheConstants.{MAX_LISTED}
use Rattle.cri_msgs.specs.declared.replies.Answer.{Answer}
use Rattle.cri_msgs.specs.declared.replies.Answer.TheVariants as answer
use Rattle.cri_msgs.specs.declared.replies.Reply.{Reply}
use Rattle.cri_msgs.specs.declared.states.State.{State}
use Rattle.cri_msgs.specs.declared.states.State.TheVariants.{Created, Running, Exited}
use Rattle.cri_msgs.specs.declared.states.Status.{Status}
use Rattle.cri_msgs.specs.declared.version.Version.{Version}
use Rattle.cri_msgs.specs.declared.version.Version.TheVariants.{V2}
use Rattle.cri_msgs.specs.Names.{kind_of, refusal_number, state_name, version_number}
use Rattle.cri_msgs.specs.Requests.{HasContainer}

abbrev pub Lacks : List ℕ → Data → Type 0
Lacks key tree = member key tree ≡ None

-- "exit" is a code, up to 255, if the container has exited, and null or absent if it has not
abbrev pub HasExit : Data → State → Type 0
HasExit tree Created = Lacks (codes "exit") tree
HasExit tree Running = Lacks (codes "exit") tree
HasExit tree (Exited code) = HasField whole (codes "exit") tree code × (code < 256)

pub record HasStatus (tree : Data) (status : Status) : Type 0 where
  pub state : HasField text (codes "state") tree (state_name (kind_of status.state))
  pub exit : HasExit tree status.state
  pub performed : HasField whole (codes "performed") tree status.performed
  pub denied : HasField whole (codes "denied") tree status.denied

-- an item of "containers"
pub record IsListed (tree : Data) (listed : ListedContainer) : Type 0 where
  pub container : HasContainer tree listed.container
  pub state : HasField text (codes "state") tree (state_name listed.state)

-- an item of "statuses"
pub record IsListedStatus (tree : Data) (listed : ListedStatus) : Type 0 where
  pub container : HasContainer tree listed.container
  pub status : HasStatus tree listed.status

-- a list of these items, at most MAX_LISTED
pub record HasList {A : Type 0} (IsItem : Data → A → Type 0) (key : List ℕ) (tree : Data)
    (items : List A) : Type 0 where
  pub trees : List Data
  pub there : HasField list key tree trees
  pub few : length trees ≤ MAX_LISTED
  pub each : Both IsItem trees items

-- version 1 has no statuses
abbrev pub IsAnswerOf : Version → Answer → Type 0
IsAnswerOf version (answer.Statuses items) = version ≡ V2
IsAnswerOf version said = Unit {0}

-- which members "ok" has: the first of "container", "containers", "state" and "statuses" decides what it is
abbrev pub IsOk : Version → Data → Answer → Type 0
IsOk version ok (answer.Refused refusal) = ⊥
IsOk version ok (answer.Container id) = HasField whole (codes "container") ok id
IsOk version ok (answer.List items) = Lacks (codes "container") ok
    × HasList IsListed (codes "containers") ok items
IsOk version ok (answer.Status status) = Lacks (codes "container") ok × Lacks (codes "containers") ok
    × HasStatus ok status
IsOk version ok (answer.Statuses items) = Lacks (codes "container") ok × Lacks (codes "containers") ok
    × Lacks (codes "state") ok
    × HasList IsListedStatus (codes "statuses") ok items × (version ≡ V2)
IsOk version ok answer.Done = Lacks (codes "container") ok × Lacks (codes "containers") ok
    × Lacks (codes "state") ok × Lacks (codes "statuses") ok

-- "refused" decides if it is present
abbrev pub HasAnswer : Version → Data → Answer → Type 0
HasAnswer version tree (answer.Refused refusal) =
    HasField whole (codes "refused") tree (refusal_number refusal)
HasAnswer version tree said = Lacks (codes "refused") tree
    × ((ok : Data) × HasField object (codes "ok") tree ok × IsOk version ok said)

pub record IsReply (version : Version) (tree : Data) (reply : Reply) : Type 0 where
  pub v : HasField whole (codes "v") tree (version_number version)
  pub id : HasField whole (codes "id") tree reply.id
  pub answer : HasAnswer version tree reply.answer

-- the text of a frame of this version is this reply
pub record ReadsReply (version : Version) (bytes : List ℕ) (reply : Reply) : Type 0 where
  pub tree : Data
  pub is : tree_of bytes ≡ Some tree
  pub says : IsReply version tree reply
