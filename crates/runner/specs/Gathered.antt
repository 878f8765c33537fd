-- The results of reading a request's files, this project's own: docs/SEMANTICS.md, "Serving a connection".
use Rattle.std.specs.Prelude.{◌≡◌, ℕ, ◌<◌, ◌≤◌, ⊤, List, length, Option, Some, None, Result, Ok, Err}
use Rattle.std.specs.Prelude.{IsSomeAnd}
use Rattle.node_io.specs.declared.faults.FileFault.{FileFault}
use Rattle.node_io.specs.declared.faults.FileFault.TheVariants.{NotFound, TooLarge, Failed, Memory}
use Rattle.node_io.specs.Counts.{HasRisen}
use Rattle.node_io.specs.Held.{Held, Tells}
use Rattle.cri_msgs.specs.declared.calls.Call.{Call}
use Rattle.cri_msgs.specs.declared.calls.Call.TheVariants.{RunPodSandbox, StopPodSandbox, RemovePodSandbox}
use Rattle.cri_msgs.specs.declared.calls.Call.TheVariants.{CreateContainer, StartContainer, StopContainer}
use Rattle.cri_msgs.specs.declared.calls.Call.TheVariants.{RemoveContainer, ContainerStatus, ListContainers}
use Rattle.cri_msgs.specs.declared.calls.Call.TheVariants.{ContainerStatuses}
use Rattle.sys_table.specs.declared.calls.CallTable.{CallTable}
use Rattle.creation.specs.Files.{path_of}
use Rattle.creation.specs.Made.{FileText}
use Rattle.node_io.specs.declared.files.TheConstants.{MAX_FILE_BYTES}

-- the script's file, which only CreateContainer needs
abbrev pub script_path : Call → Option (List ℕ)
script_path (RunPodSandbox uid) = None
script_path (StopPodSandbox uid grace) = None
script_path (RemovePodSandbox uid) = None
script_path (CreateContainer key image profile) = Some image
script_path (StartContainer key) = None
script_path (StopContainer key grace) = None
script_path (RemoveContainer key) = None
script_path (ContainerStatus key) = None
script_path (ListContainers uid) = None
script_path (ContainerStatuses uid) = None

-- the profile's file, which CreateContainer under Localhost needs
abbrev pub profile_path : Call → Option (List ℕ)
profile_path (RunPodSandbox uid) = None
profile_path (StopPodSandbox uid grace) = None
profile_path (RemovePodSandbox uid) = None
profile_path (CreateContainer key image profile) = path_of profile
profile_path (StartContainer key) = None
profile_path (StopContainer key grace) = None
profile_path (RemoveContainer key) = None
profile_path (ContainerStatus key) = None
profile_path (ListContainers uid) = None
profile_path (ContainerStatuses uid) = None

-- the result for the file at a path: its bytes and the calls that are known, or why there are none; a failure
-- only if the device's count rose
abbrev pub IsTold : CallTable → Option Held → Type 0 → List ℕ → Result FileText FileFault → Type 0
IsTold calls held rose path (Ok text) = Tells held path (λ found. found ≡ Some text.bytes)
    × (length text.bytes ≤ MAX_FILE_BYTES) × (text.calls ≡ calls)
IsTold calls held rose path (Err NotFound) = Tells held path (λ found. found ≡ None)
IsTold calls held rose path (Err TooLarge) = Tells held path (λ found.
    IsSomeAnd found (λ bytes. MAX_FILE_BYTES < length bytes))
IsTold calls held rose path (Err Failed) = rose
IsTold calls held rose path (Err Memory) = ⊤

-- the files' result for a needed path, and the files after it; if no path is needed, none is read
abbrev pub Gave : {F : Type 0} → CallTable → (F → Option Held) → (F → ℕ) → F → Option (List ℕ)
    → Option (Result FileText FileFault) → F → Type 0
Gave calls held failed old None told new = (told ≡ None) × (new ≡ old)
Gave calls held failed old (Some path) None new = ⊥
Gave calls held failed old (Some path) (Some told) new =
    IsTold calls (held old) (HasRisen (failed old) (failed new)) path told × (held new ≡ held old)
    × (failed old ≤ failed new)
