-- A call that neither runs nor removes a sandbox does not change whether it exists.
use Rattle.std.proofs.Common.{◌≡◌, ◌≢◌, inl, inr, Bool, true, false, refl, sym, ap, ◌∙◌}
use Rattle.cri_msgs.specs.declared.calls.Call.{Call}
use Rattle.cri_msgs.specs.declared.calls.Call.TheVariants.{RunPodSandbox, StopPodSandbox, RemovePodSandbox}
use Rattle.cri_msgs.specs.declared.calls.Call.TheVariants.{CreateContainer, StartContainer, StopContainer}
use Rattle.cri_msgs.specs.declared.calls.Call.TheVariants.{RemoveContainer, ContainerStatus, ListContainers}
use Rattle.cri_msgs.specs.declared.calls.Call.TheVariants.{ContainerStatuses}
use Rattle.cri_msgs.specs.declared.replies.Answer.{Answer}
use Rattle.cri_msgs.specs.declared.replies.Answer.TheVariants as answers
use Rattle.runtime_cell.specs.declared.cell.State.{State}
use Rattle.runtime_cell.specs.declared.cell.State.TheVariants as state
use Rattle.runtime_core.specs.declared.calls.Kind.TheVariants.{Runs, Removes, Other}
use Rattle.creation.specs.declared.files.FileAnswers.{FileAnswers}
use Rattle.registry.specs.declared.stage.Stage.{Stage}
use Rattle.registry.specs.declared.stage.Stage.TheVariants.{Unknown, Live, Removed}
use Rattle.registry.specs.Runtime.{Sandbox, Slot, slot_in}
use Rattle.registry.specs.Runtime.Slot.{Free, There, Gone}
use Rattle.registry.specs.Serves.{Around, Becomes, Creates, CreatesIn, Part, Removes as RemovesRow}
use Rattle.registry.specs.Serves.{RemovesPod, RunsPod, Says, ServesIn, Shows, Starts, StartsCell, StartsIn}
use Rattle.registry.specs.Serves.{Stops, StopsPod}
use Rattle.runtime_core.specs.Stays.{kind_of}

abbrev pub alive : Stage → Bool
alive Unknown = false
alive (Live ready) = true
alive Removed = false

abbrev Still : Part → Part → Type 0
Still old new = alive new.sandbox.stage ≡ alive old.sandbox.stage

says : (old new : Part) (answer said : Answer) → Says old answer said new → Still old new
says old new answer said row = ap (λ (p : Part). alive p.sandbox.stage) row.1

comes : (old new : Part) (sandbox : Sandbox) (answer said : Answer)
    → alive sandbox.stage ≡ alive old.sandbox.stage → Becomes old sandbox answer said new → Still old new
comes old new sandbox answer said same row = ap (λ (p : Part). alive p.sandbox.stage) row.1 ∙ same

stops_pod : (s : Stage) (old new : Part) (grace : _) (answer : Answer) → old.sandbox.stage ≡ s
    → StopsPod s grace old answer new → Still old new
stops_pod Unknown old new grace answer is row = says old new answer answers.Done row
stops_pod (Live ready) old new grace answer is row =
    comes old new _ answer answers.Done (sym (ap alive is)) row
stops_pod Removed old new grace answer is row = says old new answer answers.Done row

creates_in : (slot : Slot) (ready : Bool) (baseline : _) (container : _) (image : _) (choice : _)
    (files : FileAnswers) (old new : Part) (answer : Answer)
    → CreatesIn slot ready baseline container image choice files old answer new → Still old new
creates_in Gone ready baseline container image choice files old new answer row = says old new answer _ row
creates_in (There cell) ready baseline container image choice files old new answer row = elim row [
  | inl same ↦ says old new answer _ same.1
  | inr other ↦ says old new answer _ other.1
]
creates_in Free false baseline container image choice files old new answer row = says old new answer _ row
creates_in Free true baseline container image choice files old new answer row = elim row [
  | inl crowded ↦ says old new answer _ crowded.1
  | inr place ↦ elim place.1 [
    | inl refused ↦ says old new answer _ refused.2
    | inr read ↦ elim read [
      | inl memory ↦ says old new answer _ memory.1
      | inr made ↦ ap (λ (p : Part). alive p.sandbox.stage) made.3
    ]
  ]
]

creates : (s : Stage) (baseline : _) (container : _) (image : _) (choice : _) (files : FileAnswers)
    (old new : Part) (answer : Answer)
    → Creates s baseline container image choice files old answer new → Still old new
creates Unknown baseline container image choice files old new answer row = says old new answer _ row
creates (Live ready) baseline container image choice files old new answer row =
    creates_in (slot_in old.sandbox container) ready baseline container image choice files old new answer row
creates Removed baseline container image choice files old new answer row = says old new answer _ row

starts_cell : (state : State) (ready : Bool) (container : _) (old new : Part) (answer : Answer)
    → StartsCell state ready container old answer new → Still old new
starts_cell state.Created true container old new answer row = comes old new _ answer _ refl row
starts_cell state.Created false container old new answer row = says old new answer _ row
starts_cell state.Running ready container old new answer row = says old new answer _ row
starts_cell (state.Exited code killed) ready container old new answer row = says old new answer _ row

starts_in : (slot : Slot) (ready : Bool) (container : _) (old new : Part) (answer : Answer)
    → StartsIn slot ready container old answer new → Still old new
starts_in Free ready container old new answer row = says old new answer _ row
starts_in (There cell) ready container old new answer row =
    starts_cell cell.state ready container old new answer row
starts_in Gone ready container old new answer row = says old new answer _ row

starts : (s : Stage) (container : _) (old new : Part) (answer : Answer) → Starts s container old answer new
    → Still old new
starts Unknown container old new answer row = says old new answer _ row
starts (Live ready) container old new answer row =
    starts_in (slot_in old.sandbox container) ready container old new answer row
starts Removed container old new answer row = says old new answer _ row

stops : (slot : Slot) (container : _) (grace : _) (old new : Part) (answer : Answer)
    → Stops slot container grace old answer new → Still old new
stops Free container grace old new answer row = says old new answer _ row
stops (There cell) container grace old new answer row = comes old new _ answer _ refl row
stops Gone container grace old new answer row = says old new answer _ row

removes : (slot : Slot) (container : _) (old new : Part) (answer : Answer)
    → RemovesRow slot container old answer new → Still old new
removes Free container old new answer row = says old new answer _ row
removes (There cell) container old new answer row = comes old new _ answer _ refl row
removes Gone container old new answer row = says old new answer _ row

shows : (slot : Slot) (old new : Part) (answer : Answer) → Shows slot old answer new → Still old new
shows Free old new answer row = says old new answer _ row
shows (There cell) old new answer row = says old new answer _ row
shows Gone old new answer row = says old new answer _ row

pub lasts : (around : Around) (call : Call) (files : FileAnswers) (old new : Part) (answer : Answer)
    → kind_of call ≡ Other → ServesIn around call files old answer new → Still old new
lasts around (RunPodSandbox uid) files old new answer quiet row = absurd cc
lasts around (StopPodSandbox uid grace) files old new answer quiet row =
    stops_pod old.sandbox.stage old new grace answer refl row
lasts around (RemovePodSandbox uid) files old new answer quiet row = absurd cc
lasts around (CreateContainer key image choice) files old new answer quiet row =
    creates old.sandbox.stage around.baseline key.container image choice files old new answer row
lasts around (StartContainer key) files old new answer quiet row =
    starts old.sandbox.stage key.container old new answer row
lasts around (StopContainer key grace) files old new answer quiet row =
    stops (slot_in old.sandbox key.container) key.container grace old new answer row
lasts around (RemoveContainer key) files old new answer quiet row =
    removes (slot_in old.sandbox key.container) key.container old new answer row
lasts around (ContainerStatus key) files old new answer quiet row =
    shows (slot_in old.sandbox key.container) old new answer row
lasts around (ListContainers uid) files old new answer quiet row =
    elim row [ inl memory ↦ says old new answer _ memory | inr told ↦ says old new answer _ told.2 ]
lasts around (ContainerStatuses uid) files old new answer quiet row =
    elim row [ inl memory ↦ says old new answer _ memory | inr told ↦ says old new answer _ told.2 ]

-- RunPodSandbox of a uid that was named changes nothing
named_still : (s : Stage) (full : Type 0) (old new : Part) (answer : Answer) → s ≢ Unknown
    → RunsPod s full old answer new → Still old new
named_still Unknown full old new answer named row = absurd (named refl)
named_still (Live true) full old new answer named row = says old new answer _ row
named_still (Live false) full old new answer named row = says old new answer _ row
named_still Removed full old new answer named row = says old new answer _ row

pub runs_still : (around : Around) (call : Call) (files : FileAnswers) (old new : Part) (answer : Answer)
    → kind_of call ≡ Runs → old.sandbox.stage ≢ Unknown
    → ServesIn around call files old answer new → Still old new
runs_still around (RunPodSandbox uid) files old new answer runs named row =
    named_still old.sandbox.stage _ old new answer named row
runs_still around (StopPodSandbox uid grace) files old new answer runs named row = absurd cc
runs_still around (RemovePodSandbox uid) files old new answer runs named row = absurd cc
runs_still around (CreateContainer key image choice) files old new answer runs named row = absurd cc
runs_still around (StartContainer key) files old new answer runs named row = absurd cc
runs_still around (StopContainer key grace) files old new answer runs named row = absurd cc
runs_still around (RemoveContainer key) files old new answer runs named row = absurd cc
runs_still around (ContainerStatus key) files old new answer runs named row = absurd cc
runs_still around (ListContainers uid) files old new answer runs named row = absurd cc
runs_still around (ContainerStatuses uid) files old new answer runs named row = absurd cc

buried : (s : Stage) (full : Type 0) (old new : Part) (answer : Answer) → old.sandbox.stage ≡ s
    → RemovesPod s full old answer new → alive new.sandbox.stage ≡ false
buried Unknown full old new answer is row = elim row [
  | inl many ↦ says old new answer _ many.1 ∙ ap alive is
  | inr place ↦ elim place.1 [
    | inl memory ↦ says old new answer _ memory ∙ ap alive is
    | inr gone ↦ ap (λ (p : Part). alive p.sandbox.stage) gone.1
  ]
]
buried (Live ready) full old new answer is row = ap (λ (p : Part). alive p.sandbox.stage) row.1
buried Removed full old new answer is row = says old new answer _ row ∙ ap alive is

-- after RemovePodSandbox the sandbox does not exist
pub removes_dead : (around : Around) (call : Call) (files : FileAnswers) (old new : Part) (answer : Answer)
    → kind_of call ≡ Removes
    → ServesIn around call files old answer new → alive new.sandbox.stage ≡ false
removes_dead around (RunPodSandbox uid) files old new answer removes row = absurd cc
removes_dead around (StopPodSandbox uid grace) files old new answer removes row = absurd cc
removes_dead around (RemovePodSandbox uid) files old new answer removes row =
    buried old.sandbox.stage _ old new answer refl row
removes_dead around (CreateContainer key image choice) files old new answer removes row = absurd cc
removes_dead around (StartContainer key) files old new answer removes row = absurd cc
removes_dead around (StopContainer key grace) files old new answer removes row = absurd cc
removes_dead around (RemoveContainer key) files old new answer removes row = absurd cc
removes_dead around (ContainerStatus key) files old new answer removes row = absurd cc
removes_dead around (ListContainers uid) files old new answer removes row = absurd cc
removes_dead around (ContainerStatuses uid) files old new answer removes row = absurd cc
