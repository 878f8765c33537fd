-- Listing the cells of a sandbox is an event of the runtime, and changes nothing.
use Rattle.std.proofs.Common.{◌≡◌, inl, inr, List, refl, subst, sym}
use Rattle.cri_msgs.specs.declared.calls.Call.{Call}
use Rattle.cri_msgs.specs.declared.calls.Call.TheVariants.{RunPodSandbox, StopPodSandbox, RemovePodSandbox}
use Rattle.cri_msgs.specs.declared.calls.Call.TheVariants.{CreateContainer, StartContainer, StopContainer}
use Rattle.cri_msgs.specs.declared.calls.Call.TheVariants.{RemoveContainer, ContainerStatus, ListContainers}
use Rattle.cri_msgs.specs.declared.calls.Call.TheVariants.{ContainerStatuses}
use Rattle.cri_msgs.specs.declared.replies.Answer.{Answer}
use Rattle.cri_msgs.specs.Calls.{uid_of}
use Rattle.runtime_cell.specs.Cell.{Cell}
use Rattle.creation.specs.declared.files.FileAnswers.{FileAnswers}
use Rattle.registry.specs.Runtime.{Runtime}
use Rattle.registry.specs.Serves.{Serves, ServesIn, TellsCells, around_of, part_of}
use Rattle.runtime_history.specs.Agreed.{cells_in}

row : (s : Runtime) (call : Call) (files : FileAnswers) (answer : Answer)
    → TellsCells call (cells_in s (uid_of call)) answer
    → ServesIn (around_of s) call files (part_of s (uid_of call)) answer (part_of s (uid_of call))
row s (ListContainers uid) files answer (inl is) = inl (is, refl)
row s (ListContainers uid) files answer (inr (items, listed, is)) = inr (items, listed, (is, refl))
row s (ContainerStatuses uid) files answer (inl is) = inl (is, refl)
row s (ContainerStatuses uid) files answer (inr (items, listed, is)) = inr (items, listed, (is, refl))
row s (RunPodSandbox uid) files answer told = absurd told
row s (StopPodSandbox uid grace) files answer told = absurd told
row s (RemovePodSandbox uid) files answer told = absurd told
row s (CreateContainer key image choice) files answer told = absurd told
row s (StartContainer key) files answer told = absurd told
row s (StopContainer key grace) files answer told = absurd told
row s (RemoveContainer key) files answer told = absurd told
row s (ContainerStatus key) files answer told = absurd told

pub lists : (s : Runtime) (call : Call) (files : FileAnswers) (answer : Answer) (cells : List Cell)
    → cells_in s (uid_of call) ≡ cells → TellsCells call cells answer → Serves s call files answer s
lists s call files answer cells are told = record {
  row = row s call files answer (subst (λ l. TellsCells call l answer) (sym are) told);
  others = λ uid other. refl;
  baseline = refl;
}
