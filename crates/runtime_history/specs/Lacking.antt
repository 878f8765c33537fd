-- When a request may be refused because memory ran out, this project's own: docs/SEMANTICS.md, "The runtime".
use Rattle.std.specs.Prelude.{◌≡◌, ◌⊎◌, ⊤}
use Rattle.cri_msgs.specs.declared.calls.Call.{Call}
use Rattle.cri_msgs.specs.declared.calls.Call.TheVariants.{ContainerStatuses, CreateContainer, ListContainers}
use Rattle.cri_msgs.specs.declared.calls.Call.TheVariants.{RemovePodSandbox, RunPodSandbox}
use Rattle.cri_msgs.specs.declared.refusals.Refusal.TheVariants.{Memory}
use Rattle.creation.specs.declared.files.FileAnswers.{FileAnswers}
use Rattle.creation.specs.Files.{Lacks, WasRead}
use Rattle.registry.specs.declared.stage.Stage.TheVariants.{Unknown}
use Rattle.registry.specs.Runtime.{Runtime, slot_of}
use Rattle.registry.specs.Runtime.Slot.{Free}
use Rattle.registry.specs.Serves.{IsCrowded, IsFull, around_of}

-- Only a call that names a uid for the first time, that makes a cell, or that lists takes memory.
abbrev pub MayLack : Runtime → Call → FileAnswers → Type 0
MayLack r (RunPodSandbox uid) files = ((r.sandbox uid).stage ≡ Unknown)
    × (IsFull (around_of r).stages → ⊥)
MayLack r (RemovePodSandbox uid) files = ((r.sandbox uid).stage ≡ Unknown)
    × (IsFull (around_of r).stages → ⊥)
MayLack r (CreateContainer key image choice) files = (slot_of r key ≡ Free)
    × (IsCrowded (r.sandbox key.uid) → ⊥) × (WasRead files ⊎ Lacks choice files Memory)
MayLack r (ListContainers uid) files = ⊤
MayLack r (ContainerStatuses uid) files = ⊤
MayLack r call files = ⊥
