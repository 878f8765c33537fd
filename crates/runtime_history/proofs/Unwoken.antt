-- If there is no memory for a sandbox, nothing has changed.
use Rattle.std.proofs.Common.{inl, inr, List, [], refl, sym, subst, arith}
use Rattle.cri_msgs.specs.declared.calls.Call.{Call}
use Rattle.cri_msgs.specs.declared.calls.Call.TheVariants.{RunPodSandbox, StopPodSandbox, RemovePodSandbox}
use Rattle.cri_msgs.specs.declared.calls.Call.TheVariants.{CreateContainer, StartContainer, StopContainer}
use Rattle.cri_msgs.specs.declared.calls.Call.TheVariants.{RemoveContainer, ContainerStatus, ListContainers}
use Rattle.cri_msgs.specs.declared.calls.Call.TheVariants.{ContainerStatuses}
use Rattle.cri_msgs.specs.declared.refusals.Refusal.TheVariants.{Memory}
use Rattle.cri_msgs.specs.declared.replies.Answer.TheVariants.{Refused}
use Rattle.runtime_cell.specs.Cell.{Cell}
use Rattle.creation.specs.declared.files.FileAnswers.{FileAnswers}
use Rattle.registry.specs.declared.registry.Registry.{Registry}
use Rattle.registry.specs.declared.stage.Stage.{Stage}
use Rattle.registry.specs.Serves.{IsFull, RunsPod}
use Rattle.registry.specs.Stands.{Keeps, Spares, part_in, stages_in}
use Rattle.runtime_core.specs.Stands.{LendsTo}
use Rattle.runtime_history.specs.Sandboxes.{Wakes}

spares : (registry : Registry) (uid : List _) (cells : List Cell) → Spares registry registry uid cells
spares registry uid cells = record {
  known = λ u differ. refl;
  home = λ bound agrees u differ id. (λ is. is, λ is. is);
  baseline = refl;
  made = omega arith;
}

keeps : (registry : Registry) (uid : List _) (cells : List Cell) → Keeps registry registry uid cells cells
keeps registry uid cells = record { bound = λ bound. bound; agrees = λ bound agrees. agrees }

pub unwoken : (registry : Registry) (call : Call) (files : FileAnswers) → Wakes registry call
    → LendsTo registry registry call files (Refused Memory) [] []
unwoken registry (RunPodSandbox uid) files wakes = record {
  row = subst (λ (stage : Stage). RunsPod stage (IsFull (stages_in registry)) (part_in registry uid [])
      (Refused Memory) (part_in registry uid [])) (sym wakes.0)
      (inr (wakes.1, inl (refl, refl)));
  spares = spares registry uid [];
  keeps = keeps registry uid [];
}
unwoken registry (StopPodSandbox uid grace) files wakes = absurd wakes
unwoken registry (RemovePodSandbox uid) files wakes = absurd wakes
unwoken registry (CreateContainer key image profile) files wakes = absurd wakes
unwoken registry (StartContainer key) files wakes = absurd wakes
unwoken registry (StopContainer key grace) files wakes = absurd wakes
unwoken registry (RemoveContainer key) files wakes = absurd wakes
unwoken registry (ContainerStatus key) files wakes = absurd wakes
unwoken registry (ListContainers uid) files wakes = absurd wakes
unwoken registry (ContainerStatuses uid) files wakes = absurd wakes
