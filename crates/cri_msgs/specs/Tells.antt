-- Which exit codes the reply to a call reports: this project's own. Laws on the codes that an agent keeps
-- depend on it.
use Rattle.std.specs.Prelude.{◌≡◌, ℕ}
use Rattle.std.specs.List.{Any}
use Rattle.cri_msgs.specs.declared.calls.Call.{Call}
use Rattle.cri_msgs.specs.declared.calls.Call.TheVariants.{ContainerStatus, ContainerStatuses}
use Rattle.cri_msgs.specs.declared.keys.Key.{Key}
use Rattle.cri_msgs.specs.declared.keys.ContainerMetadata.{ContainerMetadata}
use Rattle.cri_msgs.specs.declared.lists.ListedStatus.{ListedStatus}
use Rattle.cri_msgs.specs.declared.replies.Answer.{Answer}
use Rattle.cri_msgs.specs.declared.replies.Answer.TheVariants.{Status, Statuses}
use Rattle.cri_msgs.specs.declared.states.State.TheVariants.{Exited}

abbrev pub IsExitOf : ContainerMetadata → ℕ → ListedStatus → Type 0
IsExitOf container code listed = (listed.container ≡ container) × (listed.status.state ≡ Exited code)

-- A status reports the exit of the requested container, a list of statuses that of each listed container of
-- the sandbox, and no other answer reports one.
abbrev pub TellsExit : Call → Answer → Key → ℕ → Type 0
TellsExit (ContainerStatus asked) (Status status) key code = (asked ≡ key) × (status.state ≡ Exited code)
TellsExit (ContainerStatuses uid) (Statuses listed) key code = (uid ≡ key.uid)
    × Any (IsExitOf key.container code) listed
TellsExit call answer key code = ⊥

-- it is not that container's, or has not exited
unfoldable pub IsSilentOn : ContainerMetadata → ListedStatus → Type 0
IsSilentOn container listed = (code : ℕ) → IsExitOf container code listed → ⊥
