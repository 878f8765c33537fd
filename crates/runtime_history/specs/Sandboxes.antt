-- Which calls make or remove a sandbox, and which start a cell, this project's own.
use Rattle.std.specs.Prelude.{◌≡◌, ⊤, ℕ, List, Option, None, option_map}
use Rattle.std.specs.List.{find}
use Rattle.cri_msgs.specs.declared.calls.Call.{Call}
use Rattle.cri_msgs.specs.declared.calls.Call.TheVariants.{RemovePodSandbox, RunPodSandbox, StartContainer}
use Rattle.cri_msgs.specs.declared.replies.Answer.{Answer}
use Rattle.cri_msgs.specs.declared.replies.Answer.TheVariants.{Done}
use Rattle.runtime_cell.specs.Cell.{Cell}
use Rattle.registry.specs.declared.registry.Registry.{Registry}
use Rattle.registry.specs.declared.stage.Stage.{Stage}
use Rattle.registry.specs.declared.stage.Stage.TheVariants.{Live, Unknown}
use Rattle.registry.specs.Runtime.{id_of, is_of}
use Rattle.registry.specs.Serves.{IsFull}
use Rattle.registry.specs.Stands.{stages_in}

-- the call may make a sandbox for a uid that was never named
abbrev pub Wakes : Registry → Call → Type 0
Wakes registry (RunPodSandbox uid) = (stages_in registry uid ≡ Unknown) × (IsFull (stages_in registry) → ⊥)
Wakes registry call = ⊥

-- the call removes its sandbox
abbrev pub Removes : Call → Type 0
Removes (RemovePodSandbox uid) = ⊤
Removes call = ⊥

-- there is a sandbox
abbrev pub IsLive : Stage → Type 0
IsLive (Live ready) = ⊤
IsLive stage = ⊥

-- the id of the cell that a call would start, and of one that it did start, or that was started before
abbrev pub to_start : Call → List Cell → Option ℕ
to_start (StartContainer key) cells = option_map id_of (find (is_of key.container) cells)
to_start call cells = None

abbrev pub if_done : Answer → Option ℕ → Option ℕ
if_done Done id = id
if_done answer id = None

abbrev pub started_by : Call → Answer → List Cell → Option ℕ
started_by call answer cells = if_done answer (to_start call cells)
