-- What the readers of this crate find in a tree, part by part: this project's own. A message has only one
-- fault, so it does not matter which of these is found first.
use Rattle.std.specs.Prelude.{ℕ, ◌==◌, List, length, codes, Bool, not, nat_lt, if◌then◌else◌, Option, Some}
use Rattle.std.specs.Prelude.{None, unwrap_or, Result, Ok, Err}
use Rattle.std.specs.Str.{bytes_eq}
use Rattle.serde_json.specs.Data.{Data}
use Rattle.json_tree.specs.declared.faults.FieldFault.{FieldFault}
use Rattle.json_tree.specs.declared.faults.FieldFault.TheVariants as field
use Rattle.json_tree.specs.declared.faults.FieldFault.TheVariants.{WrongType}
use Rattle.json_tree.specs.Tree.{has, list, object, text, tree_of, whole, word}
use Rattle.json_tree.specs.Reading.{◌>>=◌, ◌>>◌, refuse_if, as_fault, in_order, required, optional}
use Rattle.manifest.specs.declared.profiles.SeccompProfile.{SeccompProfile}
use Rattle.manifest.specs.declared.profiles.SeccompProfile.TheVariants.{RuntimeDefault, Localhost, Unconfined}
use Rattle.manifest.specs.Texts.{is_descending, is_label, is_uid}
use Rattle.cri_msgs.specs.declared.calls.Call.{Call}
use Rattle.cri_msgs.specs.declared.calls.Call.TheVariants as call
use Rattle.cri_msgs.specs.declared.calls.Request.{Request}
use Rattle.cri_msgs.specs.declared.faults.MessageFault.{MessageFault}
use Rattle.cri_msgs.specs.declared.faults.MessageFault.TheVariants.{NoMessage, Memory}
use Rattle.cri_msgs.specs.declared.keys.ContainerMetadata.{ContainerMetadata}
use Rattle.cri_msgs.specs.declared.keys.Key.{Key}
use Rattle.cri_msgs.specs.declared.lists.ListedContainer.{ListedContainer}
use Rattle.cri_msgs.specs.declared.lists.ListedStatus.{ListedStatus}
use Rattle.cri_msgs.specs.declared.lists.TheConstants.{MAX_LISTED}
use Rattle.cri_msgs.specs.declared.names.CallName.{CallName}
use Rattle.cri_msgs.specs.declared.names.CallName.TheVariants as name
use Rattle.cri_msgs.specs.declared.refusals.Refusal.{Refusal}
use Rattle.cri_msgs.specs.declared.refusals.Refusal.TheVariants as refusal
use Rattle.cri_msgs.specs.declared.replies.Answer.{Answer}
use Rattle.cri_msgs.specs.declared.replies.Answer.TheVariants as answer
use Rattle.cri_msgs.specs.declared.replies.Reply.{Reply}
use Rattle.cri_msgs.specs.declared.states.ContainerState.{ContainerState}
use Rattle.cri_msgs.specs.declared.states.ContainerState.TheVariants as kind
use Rattle.cri_msgs.specs.declared.states.State.{State}
use Rattle.cri_msgs.specs.declared.states.State.TheVariants.{Created, Running, Exited}
use Rattle.cri_msgs.specs.declared.states.Status.{Status}
use Rattle.cri_msgs.specs.declared.version.Version.{Version}
use Rattle.cri_msgs.specs.declared.version.Version.TheVariants.{V1, V2}
use Rattle.cri_msgs.specs.Names.{version_number}
use Rattle.cri_msgs.specs.Requests.{number_in}

-- a text that passes the test
unfoldable pub fitting : (List ℕ → Bool) → List ℕ → Data → Result (List ℕ) FieldFault
fitting test key tree = do
  found ← required text key tree
  refuse_if (not (test found)) WrongType
  Ok found

unfoldable pub container_of : Data → Result ContainerMetadata FieldFault
container_of tree = do
  name ← fitting is_label (codes "name") tree
  attempt ← required word (codes "attempt") tree
  Ok (record { name = name; attempt = attempt })

unfoldable pub key_of : Data → Result Key FieldFault
key_of tree = do
  uid ← fitting is_uid (codes "uid") tree
  container ← container_of tree
  Ok (record { uid = uid; container = container })

-- a type that takes no path
abbrev pub without_path : SeccompProfile → Option (List ℕ) → Result SeccompProfile FieldFault
without_path profile None = Ok profile
without_path profile (Some path) = Err WrongType

-- the type that takes a path
abbrev pub with_path : Option (List ℕ) → Result SeccompProfile FieldFault
with_path None = Err WrongType
with_path (Some path) = if is_descending path then Ok (Localhost path) else Err WrongType

unfoldable pub profile_named : List ℕ → Option (List ℕ) → Result SeccompProfile FieldFault
profile_named type path =
    if bytes_eq type (codes "RuntimeDefault") then without_path RuntimeDefault path
    else if bytes_eq type (codes "Localhost") then with_path path
    else if bytes_eq type (codes "Unconfined") then without_path Unconfined path
    else Err WrongType

unfoldable pub profile_in : Data → Result SeccompProfile FieldFault
profile_in tree = do
  type ← required text (codes "type") tree
  path ← optional text (codes "path") tree
  profile_named type path

unfoldable pub profile_of : Data → Result SeccompProfile FieldFault
profile_of tree = do
  found ← required object (codes "profile") tree
  profile_in found

unfoldable pub call_named : List ℕ → Result CallName FieldFault
call_named text =
    if bytes_eq text (codes "RunPodSandbox") then Ok name.RunPodSandbox
    else if bytes_eq text (codes "StopPodSandbox") then Ok name.StopPodSandbox
    else if bytes_eq text (codes "RemovePodSandbox") then Ok name.RemovePodSandbox
    else if bytes_eq text (codes "CreateContainer") then Ok name.CreateContainer
    else if bytes_eq text (codes "StartContainer") then Ok name.StartContainer
    else if bytes_eq text (codes "StopContainer") then Ok name.StopContainer
    else if bytes_eq text (codes "RemoveContainer") then Ok name.RemoveContainer
    else if bytes_eq text (codes "ContainerStatus") then Ok name.ContainerStatus
    else if bytes_eq text (codes "ListContainers") then Ok name.ListContainers
    else if bytes_eq text (codes "ContainerStatuses") then Ok name.ContainerStatuses
    else Err WrongType

-- a call with only a uid
unfoldable pub by_uid : (List ℕ → Call) → Data → Result Call FieldFault
by_uid make tree = do
  uid ← fitting is_uid (codes "uid") tree
  Ok (make uid)

-- a call with only a key
unfoldable pub by_key : (Key → Call) → Data → Result Call FieldFault
by_key make tree = do
  key ← key_of tree
  Ok (make key)

unfoldable pub stop_pod_of : Data → Result Call FieldFault
stop_pod_of tree = do
  uid ← fitting is_uid (codes "uid") tree
  grace ← required whole (codes "grace") tree
  Ok (call.StopPodSandbox uid grace)

unfoldable pub create_of : Data → Result Call FieldFault
create_of tree = do
  key ← key_of tree
  image ← fitting is_descending (codes "image") tree
  profile ← profile_of tree
  Ok (call.CreateContainer key image profile)

unfoldable pub stop_of : Data → Result Call FieldFault
stop_of tree = do
  key ← key_of tree
  grace ← required whole (codes "grace") tree
  Ok (call.StopContainer key grace)

abbrev pub call_by : Version → CallName → Data → Result Call FieldFault
call_by version name.RunPodSandbox tree = by_uid call.RunPodSandbox tree
call_by version name.StopPodSandbox tree = stop_pod_of tree
call_by version name.RemovePodSandbox tree = by_uid call.RemovePodSandbox tree
call_by version name.CreateContainer tree = create_of tree
call_by version name.StartContainer tree = by_key call.StartContainer tree
call_by version name.StopContainer tree = stop_of tree
call_by version name.RemoveContainer tree = by_key call.RemoveContainer tree
call_by version name.ContainerStatus tree = by_key call.ContainerStatus tree
call_by version name.ListContainers tree = by_uid call.ListContainers tree
call_by V1 name.ContainerStatuses tree = Err WrongType
call_by V2 name.ContainerStatuses tree = by_uid call.ContainerStatuses tree

-- the number of a message of this version
unfoldable pub numbered : Version → Data → Result ℕ FieldFault
numbered version tree = do
  v ← required whole (codes "v") tree
  refuse_if (not (v == version_number version)) WrongType
  required whole (codes "id") tree

unfoldable pub call_of : Version → Data → Result Call FieldFault
call_of version tree = do
  text ← required text (codes "call") tree
  which ← call_named text
  call_by version which tree

unfoldable pub request_of : Version → Data → Result Request FieldFault
request_of version tree = do
  id ← numbered version tree
  call ← call_of version tree
  Ok (record { id = id; call = call })

unfoldable pub kind_named : List ℕ → Result ContainerState FieldFault
kind_named text =
    if bytes_eq text (codes "CREATED") then Ok kind.Created
    else if bytes_eq text (codes "RUNNING") then Ok kind.Running
    else if bytes_eq text (codes "EXITED") then Ok kind.Exited
    else Err WrongType

unfoldable pub kind_in : Data → Result ContainerState FieldFault
kind_in tree = do
  text ← required text (codes "state") tree
  kind_named text

-- a state that has no exit code
unfoldable pub without_exit : State → Data → Result State FieldFault
without_exit state tree = do
  refuse_if (has (codes "exit") tree) WrongType
  Ok state

unfoldable pub with_exit : Data → Result State FieldFault
with_exit tree = do
  code ← required whole (codes "exit") tree
  refuse_if (not (nat_lt code 256)) WrongType
  Ok (Exited code)

abbrev pub state_by : ContainerState → Data → Result State FieldFault
state_by kind.Created tree = without_exit Created tree
state_by kind.Running tree = without_exit Running tree
state_by kind.Exited tree = with_exit tree

unfoldable pub state_of : Data → Result State FieldFault
state_of tree = do
  kind ← kind_in tree
  state_by kind tree

unfoldable pub status_of : Data → Result Status FieldFault
status_of tree = do
  state ← state_of tree
  performed ← required whole (codes "performed") tree
  denied ← required whole (codes "denied") tree
  Ok (record { state = state; performed = performed; denied = denied })

unfoldable pub listed_of : Data → Result ListedContainer FieldFault
listed_of tree = do
  container ← container_of tree
  state ← kind_in tree
  Ok (record { container = container; state = state })

unfoldable pub listed_status_of : Data → Result ListedStatus FieldFault
listed_status_of tree = do
  container ← container_of tree
  status ← status_of tree
  Ok (record { container = container; status = status })

-- the items of a list that is not too long
unfoldable pub few : List ℕ → Data → Result (List Data) FieldFault
few key tree = do
  trees ← required list key tree
  refuse_if (nat_lt MAX_LISTED (length trees)) WrongType
  Ok trees

unfoldable pub id_in : Data → Result Answer FieldFault
id_in ok = do
  id ← required whole (codes "container") ok
  Ok (answer.Container id)

unfoldable pub listing_in : Data → Result Answer FieldFault
listing_in ok = do
  trees ← few (codes "containers") ok
  items ← in_order listed_of trees
  Ok (answer.List items)

unfoldable pub status_in : Data → Result Answer FieldFault
status_in ok = do
  status ← status_of ok
  Ok (answer.Status status)

unfoldable pub statuses_in : Data → Result Answer FieldFault
statuses_in ok = do
  trees ← few (codes "statuses") ok
  items ← in_order listed_status_of trees
  Ok (answer.Statuses items)

abbrev pub statuses_by : Version → Data → Result Answer FieldFault
statuses_by V1 ok = Err WrongType
statuses_by V2 ok = statuses_in ok

unfoldable pub ok_of : Version → Data → Result Answer FieldFault
ok_of version ok =
    if has (codes "container") ok then id_in ok
    else if has (codes "containers") ok then listing_in ok
    else if has (codes "state") ok then status_in ok
    else if has (codes "statuses") ok then statuses_by version ok
    else Ok answer.Done

unfoldable pub refusal_numbered : ℕ → Result Refusal FieldFault
refusal_numbered number =
    if number == 3 then Ok refusal.InvalidArgument
    else if number == 5 then Ok refusal.NotFound
    else if number == 6 then Ok refusal.AlreadyExists
    else if number == 8 then Ok refusal.ResourceExhausted
    else if number == 9 then Ok refusal.FailedPrecondition
    else if number == 13 then Ok refusal.Internal
    else if number == 14 then Ok refusal.Memory
    else Err WrongType

unfoldable pub refused_in : Data → Result Answer FieldFault
refused_in tree = do
  number ← required whole (codes "refused") tree
  found ← refusal_numbered number
  Ok (answer.Refused found)

unfoldable pub ok_in : Version → Data → Result Answer FieldFault
ok_in version tree = do
  ok ← required object (codes "ok") tree
  ok_of version ok

unfoldable pub answer_of : Version → Data → Result Answer FieldFault
answer_of version tree = if has (codes "refused") tree then refused_in tree else ok_in version tree

unfoldable pub reply_of : Version → Data → Result Reply FieldFault
reply_of version tree = do
  id ← numbered version tree
  answer ← answer_of version tree
  Ok (record { id = id; answer = answer })

-- why a tree with this number is no message
abbrev pub message_fault : ℕ → FieldFault → MessageFault
message_fault id field.Missing = NoMessage id
message_fault id field.WrongType = NoMessage id
message_fault id field.Memory = Memory

-- the reading of a text's tree, if it has one
abbrev pub from_tree : {A : Type 0} → (Data → Result A FieldFault) → Option Data → Result A MessageFault
from_tree of_tree None = Err (NoMessage 0)
from_tree of_tree (Some tree) = as_fault (message_fault (unwrap_or (number_in tree) 0)) (of_tree tree)

abbrev pub request_reading : Version → List ℕ → Result Request MessageFault
request_reading version bytes = from_tree (request_of version) (tree_of bytes)

abbrev pub reply_reading : Version → List ℕ → Result Reply MessageFault
reply_reading version bytes = from_tree (reply_of version) (tree_of bytes)
