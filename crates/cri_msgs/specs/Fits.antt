-- The limits that the types of a message ensure for its texts and numbers: this project's own.
use Rattle.std.specs.Prelude.{◌<◌, ◌≤◌, ◌^◌, ℕ, List, length, IsTrue}
use Rattle.std.specs.List.{AllByRecursion}
use Rattle.manifest.specs.declared.profiles.SeccompProfile.{SeccompProfile}
use Rattle.manifest.specs.declared.profiles.SeccompProfile.TheVariants.{RuntimeDefault, Localhost, Unconfined}
use Rattle.manifest.specs.Texts.{is_descending, is_label, is_uid}
use Rattle.cri_msgs.specs.declared.calls.Call.{Call}
use Rattle.cri_msgs.specs.declared.calls.Call.TheVariants.{RunPodSandbox, StopPodSandbox, RemovePodSandbox}
use Rattle.cri_msgs.specs.declared.calls.Call.TheVariants.{CreateContainer, StartContainer, StopContainer}
use Rattle.cri_msgs.specs.declared.calls.Call.TheVariants.{RemoveContainer, ContainerStatus, ListContainers}
use Rattle.cri_msgs.specs.declared.calls.Call.TheVariants.{ContainerStatuses}
use Rattle.cri_msgs.specs.declared.keys.ContainerMetadata.{ContainerMetadata}
use Rattle.cri_msgs.specs.declared.keys.Key.{Key}
use Rattle.cri_msgs.specs.declared.lists.ListedContainer.{ListedContainer}
use Rattle.cri_msgs.specs.declared.lists.ListedStatus.{ListedStatus}
use Rattle.cri_msgs.specs.declared.lists.TheConstants.{MAX_LISTED}
use Rattle.cri_msgs.specs.declared.replies.Answer.{Answer}
use Rattle.cri_msgs.specs.declared.replies.Answer.TheVariants as answer
use Rattle.cri_msgs.specs.declared.states.State.{State}
use Rattle.cri_msgs.specs.declared.states.Status.{Status}
use Rattle.cri_msgs.specs.declared.states.State.TheVariants.{Created, Running, Exited}

-- a number of 64 bits
abbrev pub IsSmall : ℕ → Type 0
IsSmall n = n < 2 ^ 64

pub record FitsContainer (container : ContainerMetadata) : Type 0 where
  pub name : IsTrue (is_label container.name)
  pub attempt : container.attempt < 2 ^ 32

abbrev pub FitsUid : List ℕ → Type 0
FitsUid uid = IsTrue (is_uid uid)

abbrev pub FitsKey : Key → Type 0
FitsKey key = FitsUid key.uid × FitsContainer key.container

abbrev pub FitsProfile : SeccompProfile → Type 0
FitsProfile RuntimeDefault = Unit {0}
FitsProfile (Localhost path) = IsTrue (is_descending path)
FitsProfile Unconfined = Unit {0}

abbrev pub FitsCall : Call → Type 0
FitsCall (RunPodSandbox uid) = FitsUid uid
FitsCall (StopPodSandbox uid grace) = FitsUid uid × IsSmall grace
FitsCall (RemovePodSandbox uid) = FitsUid uid
FitsCall (CreateContainer key image profile) = FitsKey key × IsTrue (is_descending image)
    × FitsProfile profile
FitsCall (StartContainer key) = FitsKey key
FitsCall (StopContainer key grace) = FitsKey key × IsSmall grace
FitsCall (RemoveContainer key) = FitsKey key
FitsCall (ContainerStatus key) = FitsKey key
FitsCall (ListContainers uid) = FitsUid uid
FitsCall (ContainerStatuses uid) = FitsUid uid

abbrev pub FitsState : State → Type 0
FitsState Created = Unit {0}
FitsState Running = Unit {0}
FitsState (Exited code) = code < 256

pub record FitsStatus (status : Status) : Type 0 where
  pub state : FitsState status.state
  pub performed : IsSmall status.performed
  pub denied : IsSmall status.denied

abbrev pub FitsListed : ListedContainer → Type 0
FitsListed listed = FitsContainer listed.container

pub record FitsListedStatus (listed : ListedStatus) : Type 0 where
  pub container : FitsContainer listed.container
  pub status : FitsStatus listed.status

pub record FitsList {A : Type 0} (Fits : A → Type 0) (items : List A) : Type 0 where
  pub few : length items ≤ MAX_LISTED
  pub each : AllByRecursion Fits items

abbrev pub FitsAnswer : Answer → Type 0
FitsAnswer (answer.Refused refusal) = Unit {0}
FitsAnswer answer.Done = Unit {0}
FitsAnswer (answer.Container id) = IsSmall id
FitsAnswer (answer.Status status) = FitsStatus status
FitsAnswer (answer.List items) = FitsList FitsListed items
FitsAnswer (answer.Statuses items) = FitsList FitsListedStatus items
