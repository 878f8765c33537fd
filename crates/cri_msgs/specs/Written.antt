-- How a message is written: its tree, with the members of each object in the order of their keys' bytes, as
-- compact JSON. This project's own.
use Rattle.std.specs.Prelude.{ℕ, List, codes, map}
use Rattle.serde_json.specs.Data.{Data, null, number, unsigned, string, array, object, member, no_members}
use Rattle.serde_json.specs.Data.{Members}
use Rattle.serde_json.specs.View.{items_of}
use Rattle.serde_json.specs.Written.{compact_text}
use Rattle.manifest.specs.declared.profiles.SeccompProfile.{SeccompProfile}
use Rattle.manifest.specs.declared.profiles.SeccompProfile.TheVariants.{RuntimeDefault, Localhost, Unconfined}
use Rattle.cri_msgs.specs.declared.calls.Call.{Call}
use Rattle.cri_msgs.specs.declared.calls.Call.TheVariants as call
use Rattle.cri_msgs.specs.declared.calls.Request.{Request}
use Rattle.cri_msgs.specs.declared.keys.Key.{Key}
use Rattle.cri_msgs.specs.declared.lists.ListedContainer.{ListedContainer}
use Rattle.cri_msgs.specs.declared.lists.ListedStatus.{ListedStatus}
use Rattle.cri_msgs.specs.declared.replies.Answer.{Answer}
use Rattle.cri_msgs.specs.declared.replies.Answer.TheVariants as answer
use Rattle.cri_msgs.specs.declared.replies.Reply.{Reply}
use Rattle.cri_msgs.specs.declared.states.State.{State}
use Rattle.cri_msgs.specs.declared.states.State.TheVariants.{Created, Running, Exited}
use Rattle.cri_msgs.specs.declared.states.Status.{Status}
use Rattle.cri_msgs.specs.declared.version.Version.{Version}
use Rattle.cri_msgs.specs.Names.{kind_of, refusal_number, state_name, version_number}

abbrev pub whole_number : ℕ → Data
whole_number n = number (unsigned n)

-- the last member of each message
abbrev pub version_last : Version → Members
version_last version = member (codes "v") (whole_number (version_number version)) no_members

abbrev pub profile_tree : SeccompProfile → Data
profile_tree RuntimeDefault = object (member (codes "type") (string (codes "RuntimeDefault")) no_members)
profile_tree Unconfined = object (member (codes "type") (string (codes "Unconfined")) no_members)
profile_tree (Localhost path) = object (
    member (codes "path") (string path) (
    member (codes "type") (string (codes "Localhost")) no_members))

-- a call of a sandbox
abbrev pub uid_tree : Version → ℕ → List ℕ → List ℕ → Data
uid_tree version id name uid = object (
    member (codes "call") (string name) (
    member (codes "id") (whole_number id) (
    member (codes "uid") (string uid) (version_last version))))

abbrev pub uid_grace_tree : Version → ℕ → List ℕ → ℕ → Data
uid_grace_tree version id uid grace = object (
    member (codes "call") (string (codes "StopPodSandbox")) (
    member (codes "grace") (whole_number grace) (
    member (codes "id") (whole_number id) (
    member (codes "uid") (string uid) (version_last version)))))

-- a call of a container
abbrev pub key_tree : Version → ℕ → List ℕ → Key → Data
key_tree version id name key = object (
    member (codes "attempt") (whole_number key.container.attempt) (
    member (codes "call") (string name) (
    member (codes "id") (whole_number id) (
    member (codes "name") (string key.container.name) (
    member (codes "uid") (string key.uid) (version_last version))))))

abbrev pub key_grace_tree : Version → ℕ → Key → ℕ → Data
key_grace_tree version id key grace = object (
    member (codes "attempt") (whole_number key.container.attempt) (
    member (codes "call") (string (codes "StopContainer")) (
    member (codes "grace") (whole_number grace) (
    member (codes "id") (whole_number id) (
    member (codes "name") (string key.container.name) (
    member (codes "uid") (string key.uid) (version_last version)))))))

abbrev pub create_tree : Version → ℕ → Key → List ℕ → SeccompProfile → Data
create_tree version id key image profile = object (
    member (codes "attempt") (whole_number key.container.attempt) (
    member (codes "call") (string (codes "CreateContainer")) (
    member (codes "id") (whole_number id) (
    member (codes "image") (string image) (
    member (codes "name") (string key.container.name) (
    member (codes "profile") (profile_tree profile) (
    member (codes "uid") (string key.uid) (version_last version))))))))

unfoldable pub call_tree : Version → ℕ → Call → Data
call_tree version id (call.RunPodSandbox uid) = uid_tree version id (codes "RunPodSandbox") uid
call_tree version id (call.StopPodSandbox uid grace) = uid_grace_tree version id uid grace
call_tree version id (call.RemovePodSandbox uid) = uid_tree version id (codes "RemovePodSandbox") uid
call_tree version id (call.CreateContainer key image profile) = create_tree version id key image profile
call_tree version id (call.StartContainer key) = key_tree version id (codes "StartContainer") key
call_tree version id (call.StopContainer key grace) = key_grace_tree version id key grace
call_tree version id (call.RemoveContainer key) = key_tree version id (codes "RemoveContainer") key
call_tree version id (call.ContainerStatus key) = key_tree version id (codes "ContainerStatus") key
call_tree version id (call.ListContainers uid) = uid_tree version id (codes "ListContainers") uid
call_tree version id (call.ContainerStatuses uid) = uid_tree version id (codes "ContainerStatuses") uid

abbrev pub exit_tree : State → Data
exit_tree Created = null
exit_tree Running = null
exit_tree (Exited code) = whole_number code

abbrev pub status_tree : Status → Data
status_tree status = object (
    member (codes "denied") (whole_number status.denied) (
    member (codes "exit") (exit_tree status.state) (
    member (codes "performed") (whole_number status.performed) (
    member (codes "state") (string (state_name (kind_of status.state))) no_members))))

abbrev pub listed_tree : ListedContainer → Data
listed_tree listed = object (
    member (codes "attempt") (whole_number listed.container.attempt) (
    member (codes "name") (string listed.container.name) (
    member (codes "state") (string (state_name listed.state)) no_members)))

abbrev pub listed_status_tree : ListedStatus → Data
listed_status_tree listed = object (
    member (codes "attempt") (whole_number listed.container.attempt) (
    member (codes "denied") (whole_number listed.status.denied) (
    member (codes "exit") (exit_tree listed.status.state) (
    member (codes "name") (string listed.container.name) (
    member (codes "performed") (whole_number listed.status.performed) (
    member (codes "state") (string (state_name (kind_of listed.status.state))) no_members))))))

-- an object with one list
abbrev pub list_tree : {A : Type 0} → List ℕ → (A → Data) → List A → Data
list_tree key tree_of items = object (member key (array (items_of (map tree_of items))) no_members)

abbrev pub refused_tree : Version → ℕ → ℕ → Data
refused_tree version id refused = object (
    member (codes "id") (whole_number id) (
    member (codes "refused") (whole_number refused) (version_last version)))

abbrev pub ok_tree : Version → ℕ → Data → Data
ok_tree version id ok = object (
    member (codes "id") (whole_number id) (
    member (codes "ok") ok (version_last version)))

unfoldable pub answer_tree : Version → ℕ → Answer → Data
answer_tree version id (answer.Refused refusal) = refused_tree version id (refusal_number refusal)
answer_tree version id answer.Done = ok_tree version id (object no_members)
answer_tree version id (answer.Container made) =
    ok_tree version id (object (member (codes "container") (whole_number made) no_members))
answer_tree version id (answer.Status status) = ok_tree version id (status_tree status)
answer_tree version id (answer.List items) =
    ok_tree version id (list_tree (codes "containers") listed_tree items)
answer_tree version id (answer.Statuses items) =
    ok_tree version id (list_tree (codes "statuses") listed_status_tree items)

-- the texts
abbrev pub request_text : Version → Request → List ℕ
request_text version request = compact_text (call_tree version request.id request.call)

abbrev pub reply_text : Version → Reply → List ℕ
reply_text version reply = compact_text (answer_tree version reply.id reply.answer)
