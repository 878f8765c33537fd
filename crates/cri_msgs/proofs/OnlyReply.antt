-- Every reply is read: each reading of its tree succeeds and returns what the tree has.
use Rattle.std.proofs.Common.{◌≡◌, ◌≤◌, ℕ, List, length, codes, true, Some, Ok, refl}
use Rattle.std.proofs.lemmas.Bool.{lt-ltb, le-ltb}
use Rattle.serde_json.specs.Data.{Data}
use Rattle.json_tree.specs.Tree.{has, list, object, text, value, whole}
use Rattle.json_tree.specs.Reading.{HasField}
use Rattle.json_tree.proofs.Fields.{required_only, in_order_only}
use Rattle.json_tree.proofs.Values.{not_there, is_there, whole_is_value, text_is_value}
use Rattle.serde_json.specs.Data as json
use Rattle.cri_msgs.specs.declared.lists.ListedContainer.{ListedContainer}
use Rattle.cri_msgs.specs.declared.lists.ListedStatus.{ListedStatus}
use Rattle.cri_msgs.specs.declared.lists.TheConstants.{MAX_LISTED}
use Rattle.cri_msgs.specs.declared.refusals.Refusal.{Refusal}
use Rattle.cri_msgs.specs.declared.refusals.Refusal.TheVariants as refusal
use Rattle.cri_msgs.specs.declared.replies.Answer.{Answer}
use Rattle.cri_msgs.specs.declared.replies.Answer.TheVariants as answer
use Rattle.cri_msgs.specs.declared.replies.Reply.{Reply}
use Rattle.cri_msgs.specs.declared.states.ContainerState.{ContainerState}
use Rattle.cri_msgs.specs.declared.states.ContainerState.TheVariants as kind
use Rattle.cri_msgs.specs.declared.states.State.{State}
use Rattle.cri_msgs.specs.declared.states.State.TheVariants.{Created, Running, Exited}
use Rattle.cri_msgs.specs.declared.states.Status.{Status}
use Rattle.cri_msgs.specs.declared.version.Version.{Version}
use Rattle.cri_msgs.specs.Names.{kind_of, refusal_number, state_name}
use Rattle.cri_msgs.specs.Reading.{kind_named, kind_in, without_exit, with_exit, state_by, state_of}
use Rattle.cri_msgs.specs.Reading.{status_of, listed_of, listed_status_of, few, id_in, listing_in, status_in}
use Rattle.cri_msgs.specs.Reading.{statuses_in, ok_of, refusal_numbered, refused_in, ok_in, answer_of}
use Rattle.cri_msgs.specs.Reading.{reply_of}
use Rattle.cri_msgs.specs.Replies.{Lacks, HasExit, HasStatus, IsListed, IsListedStatus, IsOk, HasAnswer}
use Rattle.cri_msgs.specs.Replies.{IsReply}
use Rattle.cri_msgs.proofs.Only.{container_only, numbered_only}

list_is_value : (d : Data) (items : List Data) → list d ≡ Some items → value d ≡ Some d
unfolding list
list_is_value json.null items h = absurd cc
list_is_value (json.boolean b) items h = refl
list_is_value (json.number n) items h = refl
list_is_value (json.string s) items h = refl
list_is_value (json.array ds) items h = refl
list_is_value (json.object ms) items h = refl

has_whole : (key : List ℕ) (tree : Data) (n : ℕ) → HasField whole key tree n → has key tree ≡ true
has_whole key tree n h = is_there key tree h.0 h.1 (whole_is_value h.0 n h.2)

has_text : (key : List ℕ) (tree : Data) (t : List ℕ) → HasField text key tree t → has key tree ≡ true
has_text key tree t h = is_there key tree h.0 h.1 (text_is_value h.0 t h.2)

has_list : (key : List ℕ) (tree : Data) (items : List Data) → HasField list key tree items
    → has key tree ≡ true
has_list key tree items h = is_there key tree h.0 h.1 (list_is_value h.0 items h.2)

kind_name_only : (k : ContainerState) → kind_named (state_name k) ≡ Ok k
unfolding kind_named
kind_name_only kind.Created = refl
kind_name_only kind.Running = refl
kind_name_only kind.Exited = refl

kind_only : (tree : Data) (k : ContainerState) → HasField text (codes "state") tree (state_name k)
    → kind_in tree ≡ Ok k
unfolding kind_in
kind_only tree k h = rw (required_only text (codes "state") tree (state_name k) h) (kind_name_only k)

state_by_only : (tree : Data) (state : State) → HasExit tree state → state_by (kind_of state) tree ≡ Ok state
unfolding without_exit with_exit
state_by_only tree Created h = rw (not_there (codes "exit") tree h) refl
state_by_only tree Running h = rw (not_there (codes "exit") tree h) refl
state_by_only tree (Exited code) h = rw (
  required_only whole (codes "exit") tree code h.0,
  lt-ltb code 256 h.1,
) refl

status_only : (tree : Data) (status : Status) → HasStatus tree status → status_of tree ≡ Ok status
unfolding status_of state_of
status_only tree status h =
    rw (
      kind_only tree (kind_of status.state) h.state,
      state_by_only tree status.state h.exit,
      required_only whole (codes "performed") tree status.performed h.performed,
      required_only whole (codes "denied") tree status.denied h.denied,
    ) refl

listed_only : (tree : Data) (listed : ListedContainer) → IsListed tree listed → listed_of tree ≡ Ok listed
unfolding listed_of
listed_only tree listed h = rw (
  container_only tree listed.container h.container,
  kind_only tree listed.state h.state,
) refl

listed_status_only : (tree : Data) (listed : ListedStatus) → IsListedStatus tree listed
    → listed_status_of tree ≡ Ok listed
unfolding listed_status_of
listed_status_only tree listed h = rw (
  container_only tree listed.container h.container,
  status_only tree listed.status h.status,
) refl

few_only : (key : List ℕ) (tree : Data) (trees : List Data) → HasField list key tree trees
    → length trees ≤ MAX_LISTED → few key tree ≡ Ok trees
unfolding few
few_only key tree trees there short = rw (
  required_only list key tree trees there,
  le-ltb MAX_LISTED (length trees) short,
) refl

ok_only : (version : Version) (ok : Data) (said : Answer) → IsOk version ok said → ok_of version ok ≡ Ok said
unfolding ok_of id_in listing_in status_in statuses_in
ok_only version ok (answer.Refused r) h = absurd h
ok_only version ok answer.Done h =
    rw (
      not_there (codes "container") ok h.0,
      not_there (codes "containers") ok h.1,
      not_there (codes "state") ok h.2,
      not_there (codes "statuses") ok h.3,
    ) refl
ok_only version ok (answer.Container id) h =
    rw (has_whole (codes "container") ok id h, required_only whole (codes "container") ok id h) refl
ok_only version ok (answer.List items) h =
    rw (
      not_there (codes "container") ok h.0,
      has_list (codes "containers") ok h.1.trees h.1.there,
      few_only (codes "containers") ok h.1.trees h.1.there h.1.few,
      in_order_only listed_of IsListed listed_only h.1.trees items h.1.each,
    ) refl
ok_only version ok (answer.Status status) h =
    rw (
      not_there (codes "container") ok h.0,
      not_there (codes "containers") ok h.1,
      has_text (codes "state") ok (state_name (kind_of status.state)) h.2.state,
      status_only ok status h.2,
    ) refl
ok_only version ok (answer.Statuses items) h =
    rw (
      not_there (codes "container") ok h.0,
      not_there (codes "containers") ok h.1,
      not_there (codes "state") ok h.2,
      has_list (codes "statuses") ok h.3.trees h.3.there,
      h.4,
      few_only (codes "statuses") ok h.3.trees h.3.there h.3.few,
      in_order_only listed_status_of IsListedStatus listed_status_only h.3.trees items h.3.each,
    ) refl

number_only : (r : Refusal) → refusal_numbered (refusal_number r) ≡ Ok r
unfolding refusal_numbered
number_only refusal.InvalidArgument = refl
number_only refusal.NotFound = refl
number_only refusal.AlreadyExists = refl
number_only refusal.ResourceExhausted = refl
number_only refusal.FailedPrecondition = refl
number_only refusal.Internal = refl
number_only refusal.Memory = refl

said_only : (version : Version) (tree ok : Data) (said : Answer) → Lacks (codes "refused") tree
    → HasField object (codes "ok") tree ok → IsOk version ok said → answer_of version tree ≡ Ok said
unfolding answer_of ok_in
said_only version tree ok said lacks there is =
    rw (not_there (codes "refused") tree lacks, required_only object (codes "ok") tree ok there)
    (ok_only version ok said is)

answer_only : (version : Version) (tree : Data) (said : Answer) → HasAnswer version tree said
    → answer_of version tree ≡ Ok said
unfolding answer_of refused_in
answer_only version tree (answer.Refused r) h =
    rw (
      has_whole (codes "refused") tree (refusal_number r) h,
      required_only whole (codes "refused") tree (refusal_number r) h,
      number_only r,
    ) refl
answer_only version tree answer.Done h = said_only version tree h.1.0 answer.Done h.0 h.1.1 h.1.2
answer_only version tree (answer.Container id) h =
    said_only version tree h.1.0 (answer.Container id) h.0 h.1.1 h.1.2
answer_only version tree (answer.Status status) h =
    said_only version tree h.1.0 (answer.Status status) h.0 h.1.1 h.1.2
answer_only version tree (answer.List items) h =
    said_only version tree h.1.0 (answer.List items) h.0 h.1.1 h.1.2
answer_only version tree (answer.Statuses items) h =
    said_only version tree h.1.0 (answer.Statuses items) h.0 h.1.1 h.1.2

pub reply_only : (version : Version) (tree : Data) (reply : Reply) → IsReply version tree reply
    → reply_of version tree ≡ Ok reply
unfolding reply_of
reply_only version tree reply h = rw (
  numbered_only version tree reply.id h.v h.id,
  answer_only version tree reply.answer h.answer,
) refl
