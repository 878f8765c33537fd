-- A named uid stays named.
use Rattle.std.proofs.Common.{inl, inr, Bool, true, false, sym, subst}
use Rattle.cri_msgs.specs.declared.calls.Call.{Call}
use Rattle.cri_msgs.specs.declared.calls.Call.TheVariants.{RunPodSandbox, StopPodSandbox, RemovePodSandbox}
use Rattle.cri_msgs.specs.declared.calls.Call.TheVariants.{CreateContainer, StartContainer, StopContainer}
use Rattle.cri_msgs.specs.declared.calls.Call.TheVariants.{RemoveContainer, ContainerStatus, ListContainers}
use Rattle.cri_msgs.specs.declared.calls.Call.TheVariants.{ContainerStatuses}
use Rattle.cri_msgs.specs.declared.replies.Answer.{Answer}
use Rattle.runtime_cell.specs.declared.cell.State.{State}
use Rattle.runtime_cell.specs.declared.cell.State.TheVariants as state
use Rattle.creation.specs.declared.files.FileAnswers.{FileAnswers}
use Rattle.registry.specs.declared.stage.Stage.{Stage}
use Rattle.registry.specs.declared.stage.Stage.TheVariants.{Unknown, Live, Removed}
use Rattle.registry.specs.Runtime.{IsKnown, Sandbox, Slot, slot_in}
use Rattle.registry.specs.Runtime.Slot.{Free, There, Gone}
use Rattle.registry.specs.Serves.{Around, Becomes, Creates, CreatesIn, Enters, Part, Removes as RemovesRow}
use Rattle.registry.specs.Serves.{RemovesPod, RunsPod, Says, ServesIn, Shows, Starts, StartsCell, StartsIn}
use Rattle.registry.specs.Serves.{Stops, StopsPod}

abbrev Named : Part → Type 0
Named p = IsKnown p.sandbox.stage

abbrev Still : Part → Part → Type 0
Still old new = Named old → Named new

says : (old new : Part) (answer said : Answer) → Says old answer said new → Still old new
says old new answer said row known = subst Named (sym row.1) known

comes : (old new : Part) (sandbox : Sandbox) (answer said : Answer)
    → (IsKnown old.sandbox.stage → IsKnown sandbox.stage) → Becomes old sandbox answer said new
    → Still old new
comes old new sandbox answer said same row known = subst Named (sym row.1) (same known)

enters : (full : Type 0) (old new : Part) (sandbox : Sandbox) (answer : Answer) → IsKnown sandbox.stage
    → Enters full old sandbox answer new → Still old new
enters full old new sandbox answer is row known = elim row [
  | inl many ↦ says old new answer _ many.1 known
  | inr place ↦ elim place.1 [
    | inl memory ↦ says old new answer _ memory known
    | inr new_one ↦ comes old new sandbox answer _ (λ _. is) new_one known
  ]
]

runs_pod : (s : Stage) (full : Type 0) (old new : Part) (answer : Answer)
    → RunsPod s full old answer new → Still old new
runs_pod Unknown full old new answer row = enters full old new _ answer tt row
runs_pod (Live true) full old new answer row = says old new answer _ row
runs_pod (Live false) full old new answer row = says old new answer _ row
runs_pod Removed full old new answer row = says old new answer _ row

stops_pod : (s : Stage) (old new : Part) (grace : _) (answer : Answer)
    → StopsPod s grace old answer new → Still old new
stops_pod Unknown old new grace answer row = says old new answer _ row
stops_pod (Live ready) old new grace answer row = comes old new _ answer _ (λ _. tt) row
stops_pod Removed old new grace answer row = says old new answer _ row

removes_pod : (s : Stage) (full : Type 0) (old new : Part) (answer : Answer)
    → RemovesPod s full old answer new → Still old new
removes_pod Unknown full old new answer row = enters full old new _ answer tt row
removes_pod (Live ready) full old new answer row = comes old new _ answer _ (λ _. tt) row
removes_pod Removed full old new answer row = says old new answer _ row

creates_in : (slot : Slot) (ready : Bool) (baseline : _) (container : _) (image : _) (choice : _)
    (files : FileAnswers) (old new : Part) (answer : Answer)
    → CreatesIn slot ready baseline container image choice files old answer new → Still old new
creates_in Gone ready baseline container image choice files old new answer row = says old new answer _ row
creates_in (There cell) ready baseline container image choice files old new answer row = elim row [
  | inl same ↦ says old new answer _ same.1
  | inr other ↦ says old new answer _ other.1
]
creates_in Free false baseline container image choice files old new answer row = says old new answer _ row
creates_in Free true baseline container image choice files old new answer row = elim row [
  | inl crowded ↦ says old new answer _ crowded.1
  | inr place ↦ elim place.1 [
    | inl refused ↦ says old new answer _ refused.2
    | inr read ↦ elim read [
      | inl memory ↦ says old new answer _ memory.1
      | inr made ↦ λ known. subst Named (sym made.3) known
    ]
  ]
]

creates : (s : Stage) (baseline : _) (container : _) (image : _) (choice : _) (files : FileAnswers)
    (old new : Part) (answer : Answer)
    → Creates s baseline container image choice files old answer new → Still old new
creates Unknown baseline container image choice files old new answer row = says old new answer _ row
creates (Live ready) baseline container image choice files old new answer row =
    creates_in (slot_in old.sandbox container) ready baseline container image choice files old new answer
    row
creates Removed baseline container image choice files old new answer row = says old new answer _ row

starts_cell : (state : State) (ready : Bool) (container : _) (old new : Part) (answer : Answer)
    → StartsCell state ready container old answer new → Still old new
starts_cell state.Created true container old new answer row = comes old new _ answer _ (λ known. known) row
starts_cell state.Created false container old new answer row = says old new answer _ row
starts_cell state.Running ready container old new answer row = says old new answer _ row
starts_cell (state.Exited code killed) ready container old new answer row = says old new answer _ row

starts_in : (slot : Slot) (ready : Bool) (container : _) (old new : Part) (answer : Answer)
    → StartsIn slot ready container old answer new → Still old new
starts_in Free ready container old new answer row = says old new answer _ row
starts_in (There cell) ready container old new answer row =
    starts_cell cell.state ready container old new answer row
starts_in Gone ready container old new answer row = says old new answer _ row

starts : (s : Stage) (container : _) (old new : Part) (answer : Answer) → Starts s container old answer new
    → Still old new
starts Unknown container old new answer row = says old new answer _ row
starts (Live ready) container old new answer row =
    starts_in (slot_in old.sandbox container) ready container old new answer row
starts Removed container old new answer row = says old new answer _ row

stops : (slot : Slot) (container : _) (grace : _) (old new : Part) (answer : Answer)
    → Stops slot container grace old answer new → Still old new
stops Free container grace old new answer row = says old new answer _ row
stops (There cell) container grace old new answer row = comes old new _ answer _ (λ known. known) row
stops Gone container grace old new answer row = says old new answer _ row

removes : (slot : Slot) (container : _) (old new : Part) (answer : Answer)
    → RemovesRow slot container old answer new → Still old new
removes Free container old new answer row = says old new answer _ row
removes (There cell) container old new answer row = comes old new _ answer _ (λ known. known) row
removes Gone container old new answer row = says old new answer _ row

shows : (slot : Slot) (old new : Part) (answer : Answer) → Shows slot old answer new → Still old new
shows Free old new answer row = says old new answer _ row
shows (There cell) old new answer row = says old new answer _ row
shows Gone old new answer row = says old new answer _ row

pub stays_known : (around : Around) (call : Call) (files : FileAnswers) (old new : Part) (answer : Answer)
    → ServesIn around call files old answer new → IsKnown old.sandbox.stage → IsKnown new.sandbox.stage
stays_known around (RunPodSandbox uid) files old new answer row =
    runs_pod old.sandbox.stage _ old new answer row
stays_known around (StopPodSandbox uid grace) files old new answer row =
    stops_pod old.sandbox.stage old new grace answer row
stays_known around (RemovePodSandbox uid) files old new answer row =
    removes_pod old.sandbox.stage _ old new answer row
stays_known around (CreateContainer key image choice) files old new answer row =
    creates old.sandbox.stage around.baseline key.container image choice files old new answer row
stays_known around (StartContainer key) files old new answer row =
    starts old.sandbox.stage key.container old new answer row
stays_known around (StopContainer key grace) files old new answer row =
    stops (slot_in old.sandbox key.container) key.container grace old new answer row
stays_known around (RemoveContainer key) files old new answer row =
    removes (slot_in old.sandbox key.container) key.container old new answer row
stays_known around (ContainerStatus key) files old new answer row =
    shows (slot_in old.sandbox key.container) old new answer row
stays_known around (ListContainers uid) files old new answer row =
    elim row [ inl memory ↦ says old new answer _ memory | inr told ↦ says old new answer _ told.2 ]
stays_known around (ContainerStatuses uid) files old new answer row =
    elim row [ inl memory ↦ says old new answer _ memory | inr told ↦ says old new answer _ told.2 ]
