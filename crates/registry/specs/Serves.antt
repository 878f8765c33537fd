-- What each call does, by cases, this project's own: docs/SEMANTICS.md, "The runtime". The states, and that
-- calls which stop or remove may be repeated, are CRI v1's.
use Rattle.std.specs.Prelude.{◌≡◌, ◌≢◌, ◌⊎◌, ◌+◌, ◌==◌, if◌then◌else◌, ℕ, ◌≤◌, not, count_by, IsPermutation}
use Rattle.std.specs.Prelude.{Bool, true, false, List, [], ◌∷◌, ◌++◌, length, map, Option, None, Some, find}
use Rattle.std.specs.List.Sorted.{IsSortedByKey}
use Rattle.std.specs.BTreeSet.{insert_key}
use Rattle.bpf_code.specs.declared.insn.Insn.{Insn}
use Rattle.manifest.specs.declared.profiles.SeccompProfile.{SeccompProfile}
use Rattle.cri_msgs.specs.declared.calls.Call.{Call}
use Rattle.cri_msgs.specs.declared.calls.Call.TheVariants.{RunPodSandbox, StopPodSandbox, RemovePodSandbox}
use Rattle.cri_msgs.specs.declared.calls.Call.TheVariants.{CreateContainer, StartContainer, StopContainer}
use Rattle.cri_msgs.specs.declared.calls.Call.TheVariants.{RemoveContainer, ContainerStatus, ListContainers}
use Rattle.cri_msgs.specs.declared.calls.Call.TheVariants.{ContainerStatuses}
use Rattle.cri_msgs.specs.declared.keys.ContainerMetadata.{ContainerMetadata}
use Rattle.cri_msgs.specs.declared.lists.ListedContainer.{ListedContainer}
use Rattle.cri_msgs.specs.declared.lists.ListedStatus.{ListedStatus}
use Rattle.cri_msgs.specs.declared.refusals.Refusal.TheVariants.{NotFound, AlreadyExists, ResourceExhausted}
use Rattle.cri_msgs.specs.declared.refusals.Refusal.TheVariants.{FailedPrecondition, Memory}
use Rattle.cri_msgs.specs.declared.replies.Answer.{Answer}
use Rattle.cri_msgs.specs.declared.replies.Answer.TheVariants.{Refused, Done, Container, Status}
use Rattle.cri_msgs.specs.declared.replies.Answer.TheVariants as answers
use Rattle.cri_msgs.specs.declared.states.State as told
use Rattle.cri_msgs.specs.declared.states.State.TheVariants as told_as
use Rattle.cri_msgs.specs.declared.states.Status as status
use Rattle.cri_msgs.specs.Calls.{uid_of}
use Rattle.cri_msgs.specs.Names.{kind_of}
use Rattle.cri_msgs.specs.Order.{container_cmp}
use Rattle.runtime_cell.specs.declared.cell.State.{State}
use Rattle.runtime_cell.specs.declared.cell.State.TheVariants.{Created, Running, Exited}
use Rattle.runtime_cell.specs.Cell.{Cell, killed, started}
use Rattle.creation.specs.declared.files.FileAnswers.{FileAnswers}
use Rattle.registry.specs.declared.stage.Stage.{Stage}
use Rattle.registry.specs.declared.stage.Stage.TheVariants.{Unknown, Live, Removed}
use Rattle.registry.specs.declared.limits.TheConstants.{MAX_UIDS, MAX_CELLS, MAX_KEYS, STOPPED, TERMINATED}
use Rattle.creation.specs.Files.{IsMade, Lacks, WasRead, choice_of}
use Rattle.registry.specs.Runtime.{AtLeast, IsKnown, Runtime, Sandbox, Slot, change_first, container_in}
use Rattle.registry.specs.Runtime.{drop_first, fresh_sandbox, is_of, removed, slot_in}
use Rattle.registry.specs.Runtime.Slot.{Free, There, Gone}

-- what a call sees and changes: the sandbox that it names, and how many cells were made so far
pub record Part : Type 0 where
  pub made : ℕ
  pub sandbox : Sandbox

-- what else it sees: the node's filter, and the stages of all sandboxes
pub record Around : Type 0 where
  pub baseline : Option (List Insn)
  -- which uids are known
  pub stages : List ℕ → Stage

-- there is no room for another uid
abbrev pub IsFull : (List ℕ → Stage) → Type 0
IsFull stages = AtLeast MAX_UIDS (λ uid. IsKnown (stages uid))

-- the answer, if nothing changes
abbrev pub Says : Part → Answer → Answer → Part → Type 0
Says old answer said new = (answer ≡ said) × (new ≡ old)

-- the answer, if the sandbox becomes another
abbrev pub Becomes : Part → Sandbox → Answer → Answer → Part → Type 0
Becomes old sandbox answer said new = (answer ≡ said) × (new ≡ record { made = old.made; sandbox = sandbox })

abbrev pub with_cells : Sandbox → List Cell → Sandbox
with_cells s cells = record { stage = s.stage; cells = cells; used = s.used }

-- 128 and the number of SIGTERM if there is a grace period, of SIGKILL if there is none
abbrev pub code_of_grace : ℕ → ℕ
code_of_grace grace = if grace == 0 then STOPPED else TERMINATED

-- a uid that was never named
abbrev pub Enters : Type 0 → Part → Sandbox → Answer → Part → Type 0
Enters full old sandbox answer new = (full × Says old answer (Refused ResourceExhausted) new)
    ⊎ ((¬ full) × (Says old answer (Refused Memory) new ⊎ Becomes old sandbox answer Done new))

abbrev pub RunsPod : Stage → Type 0 → Part → Answer → Part → Type 0
RunsPod Unknown full old answer new = Enters full old fresh_sandbox answer new
RunsPod (Live true) full old answer new = Says old answer Done new
RunsPod (Live false) full old answer new = Says old answer (Refused FailedPrecondition) new
RunsPod Removed full old answer new = Says old answer (Refused FailedPrecondition) new

abbrev pub stopped_sandbox : ℕ → Sandbox → Sandbox
stopped_sandbox grace s = record {
  stage = Live false;
  cells = map (killed (code_of_grace grace)) s.cells;
  used = s.used;
}

abbrev pub StopsPod : Stage → ℕ → Part → Answer → Part → Type 0
StopsPod Unknown grace old answer new = Says old answer Done new
StopsPod (Live ready) grace old answer new = Becomes old (stopped_sandbox grace old.sandbox) answer Done new
StopsPod Removed grace old answer new = Says old answer Done new

abbrev pub RemovesPod : Stage → Type 0 → Part → Answer → Part → Type 0
RemovesPod Unknown full old answer new = Enters full old removed answer new
RemovesPod (Live ready) full old answer new = Becomes old removed answer Done new
RemovesPod Removed full old answer new = Says old answer Done new

-- the cell was made from this image and with this profile
abbrev pub WasAsked : Cell → List ℕ → SeccompProfile → Type 0
WasAsked cell image choice = (cell.making.label.image ≡ image) × (choice_of cell.making ≡ choice)

-- there is no room for another container
abbrev pub IsCrowded : Sandbox → Type 0
IsCrowded s = (MAX_CELLS ≤ length s.cells) ⊎ (MAX_KEYS ≤ length s.used)

-- one cell more
abbrev pub grown : Part → ContainerMetadata → Cell → Part
grown old container cell = record {
  made = old.made + 1;
  sandbox = record {
    stage = old.sandbox.stage;
    cells = old.sandbox.cells ++ cell ∷ [];
    used = insert_key container_cmp old.sandbox.used container;
  };
}

abbrev pub MakesFrom : Option (List Insn) → ContainerMetadata → List ℕ → SeccompProfile → FileAnswers → Part
    → Answer → Part → Type 0
MakesFrom baseline container image choice files old answer new =
    ((refusal : _) × Lacks choice files refusal × Says old answer (Refused refusal) new)
    ⊎ ((WasRead files × Says old answer (Refused Memory) new)
    ⊎ ((cell : Cell) × IsMade baseline (old.made + 1) container image choice files cell
    × (answer ≡ Container (old.made + 1)) × (new ≡ grown old container cell)))

abbrev pub CreatesIn : Slot → Bool → Option (List Insn) → ContainerMetadata → List ℕ → SeccompProfile
    → FileAnswers → Part → Answer → Part → Type 0
CreatesIn Gone ready baseline container image choice files old answer new =
    Says old answer (Refused FailedPrecondition) new
CreatesIn (There cell) ready baseline container image choice files old answer new =
    (WasAsked cell image choice × Says old answer (Container cell.making.label.id) new)
    ⊎ ((¬ WasAsked cell image choice) × Says old answer (Refused AlreadyExists) new)
CreatesIn Free false baseline container image choice files old answer new =
    Says old answer (Refused FailedPrecondition) new
CreatesIn Free true baseline container image choice files old answer new =
    (IsCrowded old.sandbox × Says old answer (Refused ResourceExhausted) new)
    ⊎ ((¬ IsCrowded old.sandbox) × MakesFrom baseline container image choice files old answer new)

abbrev pub Creates : Stage → Option (List Insn) → ContainerMetadata → List ℕ → SeccompProfile → FileAnswers
    → Part → Answer → Part → Type 0
Creates Unknown baseline container image choice files old answer new = Says old answer (Refused NotFound) new
Creates (Live ready) baseline container image choice files old answer new =
    CreatesIn (slot_in old.sandbox container) ready baseline container image choice files old answer new
Creates Removed baseline container image choice files old answer new =
    Says old answer (Refused FailedPrecondition) new

-- the cell of the container, changed
abbrev pub with_cell : Sandbox → ContainerMetadata → (Cell → Cell) → Sandbox
with_cell s container f = with_cells s (change_first (is_of container) f s.cells)

abbrev pub StartsCell : State → Bool → ContainerMetadata → Part → Answer → Part → Type 0
StartsCell Created true container old answer new =
    Becomes old (with_cell old.sandbox container started) answer Done new
StartsCell Created false container old answer new = Says old answer (Refused FailedPrecondition) new
StartsCell Running ready container old answer new = Says old answer Done new
StartsCell (Exited code killed) ready container old answer new = Says old answer Done new

abbrev pub StartsIn : Slot → Bool → ContainerMetadata → Part → Answer → Part → Type 0
StartsIn Free ready container old answer new = Says old answer (Refused NotFound) new
StartsIn (There cell) ready container old answer new = StartsCell cell.state ready container old answer new
StartsIn Gone ready container old answer new = Says old answer (Refused FailedPrecondition) new

abbrev pub Starts : Stage → ContainerMetadata → Part → Answer → Part → Type 0
Starts Unknown container old answer new = Says old answer (Refused NotFound) new
Starts (Live ready) container old answer new =
    StartsIn (slot_in old.sandbox container) ready container old answer new
Starts Removed container old answer new = Says old answer (Refused FailedPrecondition) new

abbrev pub Stops : Slot → ContainerMetadata → ℕ → Part → Answer → Part → Type 0
Stops (There cell) container grace old answer new =
    Becomes old (with_cell old.sandbox container (killed (code_of_grace grace))) answer Done new
Stops Free container grace old answer new = Says old answer Done new
Stops Gone container grace old answer new = Says old answer Done new

abbrev pub Removes : Slot → ContainerMetadata → Part → Answer → Part → Type 0
Removes (There cell) container old answer new =
    Becomes old (with_cells old.sandbox (drop_first (is_of container) old.sandbox.cells)) answer Done new
Removes Free container old answer new = Says old answer Done new
Removes Gone container old answer new = Says old answer Done new

abbrev pub state_told : State → told.State
state_told Created = told_as.Created
state_told Running = told_as.Running
state_told (Exited code killed) = told_as.Exited code

abbrev pub status_of : Cell → status.Status
status_of cell = record {
  state = state_told cell.state;
  performed = count_by (λ entry. entry.performed) cell.entries;
  denied = count_by (λ entry. not entry.performed) cell.entries;
}

abbrev pub Shows : Slot → Part → Answer → Part → Type 0
Shows (There cell) old answer new = Says old answer (Status (status_of cell)) new
Shows Free old answer new = Says old answer (Refused NotFound) new
Shows Gone old answer new = Says old answer (Refused NotFound) new

abbrev pub listed : Cell → ListedContainer
listed cell = record { container = container_in cell; state = kind_of (state_told cell.state) }

abbrev pub listed_status : Cell → ListedStatus
listed_status cell = record { container = container_in cell; status = status_of cell }

-- all existing cells, by name, then by attempt
pub record IsListing (cells : List Cell) (items : List ListedContainer) : Type 0 where
  pub all : IsPermutation (map listed cells) items
  pub ordered : IsSortedByKey (λ (item : ListedContainer). item.container) container_cmp items

pub record AreStatuses (cells : List Cell) (items : List ListedStatus) : Type 0 where
  pub all : IsPermutation (map listed_status cells) items
  pub ordered : IsSortedByKey (λ (item : ListedStatus). item.container) container_cmp items

-- the answer to a call that lists the cells of an existing sandbox; it depends on nothing else of a runtime
abbrev pub TellsCells : Call → List Cell → Answer → Type 0
TellsCells (ListContainers uid) cells answer =
    (answer ≡ Refused Memory) ⊎ ((items : List ListedContainer) × IsListing cells items
    × (answer ≡ answers.List items))
TellsCells (ContainerStatuses uid) cells answer =
    (answer ≡ Refused Memory) ⊎ ((items : List ListedStatus) × AreStatuses cells items
    × (answer ≡ answers.Statuses items))
TellsCells call cells answer = ⊥

abbrev pub Lists : Part → Answer → Part → Type 0
Lists old answer new = Says old answer (Refused Memory) new
    ⊎ ((items : List ListedContainer) × IsListing old.sandbox.cells items
    × Says old answer (answers.List items) new)

abbrev pub ListsStatuses : Part → Answer → Part → Type 0
ListsStatuses old answer new = Says old answer (Refused Memory) new
    ⊎ ((items : List ListedStatus) × AreStatuses old.sandbox.cells items
    × Says old answer (answers.Statuses items) new)

-- what a call does to the sandbox that it names
abbrev pub ServesIn : Around → Call → FileAnswers → Part → Answer → Part → Type 0
ServesIn around (RunPodSandbox uid) files old answer new =
    RunsPod old.sandbox.stage (IsFull around.stages) old answer new
ServesIn around (StopPodSandbox uid grace) files old answer new =
    StopsPod old.sandbox.stage grace old answer new
ServesIn around (RemovePodSandbox uid) files old answer new =
    RemovesPod old.sandbox.stage (IsFull around.stages) old answer new
ServesIn around (CreateContainer key image choice) files old answer new =
    Creates old.sandbox.stage around.baseline key.container image choice files old answer new
ServesIn around (StartContainer key) files old answer new =
    Starts old.sandbox.stage key.container old answer new
ServesIn around (StopContainer key grace) files old answer new =
    Stops (slot_in old.sandbox key.container) key.container grace old answer new
ServesIn around (RemoveContainer key) files old answer new =
    Removes (slot_in old.sandbox key.container) key.container old answer new
ServesIn around (ContainerStatus key) files old answer new =
    Shows (slot_in old.sandbox key.container) old answer new
ServesIn around (ListContainers uid) files old answer new = Lists old answer new
ServesIn around (ContainerStatuses uid) files old answer new = ListsStatuses old answer new

-- the cells that were removed with a sandbox, if it existed
abbrev pub gone_with : Stage → List Cell → List Cell → List Cell
gone_with Unknown cells others = others
gone_with (Live ready) cells others = cells
gone_with Removed cells others = others

-- the cell that was removed by itself, if it was in an existing sandbox
abbrev pub gone_of : Stage → Option Cell → List Cell → List Cell
gone_of Unknown cell others = others
gone_of (Live ready) None others = others
gone_of (Live ready) (Some cell) others = cell ∷ []
gone_of Removed cell others = others

-- the cells that are handed out: those that are removed replace the others
abbrev pub handed_out : Call → Stage → List Cell → List Cell → List Cell
handed_out (RunPodSandbox uid) stage cells others = others
handed_out (StopPodSandbox uid grace) stage cells others = others
handed_out (RemovePodSandbox uid) stage cells others = gone_with stage cells others
handed_out (CreateContainer key image choice) stage cells others = others
handed_out (StartContainer key) stage cells others = others
handed_out (StopContainer key grace) stage cells others = others
handed_out (RemoveContainer key) stage cells others =
    gone_of stage (find (is_of key.container) cells) others
handed_out (ContainerStatus key) stage cells others = others
handed_out (ListContainers uid) stage cells others = others
handed_out (ContainerStatuses uid) stage cells others = others

abbrev pub part_of : Runtime → List ℕ → Part
part_of r uid = record { made = r.made; sandbox = r.sandbox uid }

abbrev pub around_of : Runtime → Around
around_of r = record { baseline = r.baseline; stages = λ uid. (r.sandbox uid).stage }

-- a request is served: the table applies to the sandbox that it names, and no other changes
pub record Serves (old : Runtime) (call : Call) (files : FileAnswers) (answer : Answer)
    (new : Runtime) : Type 0 where
  pub row : ServesIn (around_of old) call files (part_of old (uid_of call)) answer (part_of new (uid_of call))
  pub others : (uid : List ℕ) → uid ≢ uid_of call → new.sandbox uid ≡ old.sandbox uid
  pub baseline : new.baseline ≡ old.baseline
