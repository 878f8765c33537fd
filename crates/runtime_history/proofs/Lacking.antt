-- When a request may be refused because memory ran out.
use Rattle.std.proofs.Common.{◌≡◌, ◌⊎◌, inl, inr, Bool, true, false, List, [], ◌∷◌, Option, sym, subst}
use Rattle.std.proofs.Common.{refl}
use Rattle.bpf_code.specs.declared.insn.Insn.{Insn}
use Rattle.cri_msgs.specs.declared.calls.Call.{Call}
use Rattle.cri_msgs.specs.declared.calls.Call.TheVariants.{RunPodSandbox, StopPodSandbox, RemovePodSandbox}
use Rattle.cri_msgs.specs.declared.calls.Call.TheVariants.{CreateContainer, StartContainer, StopContainer}
use Rattle.cri_msgs.specs.declared.calls.Call.TheVariants.{RemoveContainer, ContainerStatus, ListContainers}
use Rattle.cri_msgs.specs.declared.calls.Call.TheVariants.{ContainerStatuses}
use Rattle.cri_msgs.specs.declared.refusals.Refusal.{Refusal}
use Rattle.cri_msgs.specs.declared.refusals.Refusal.TheVariants.{AlreadyExists, FailedPrecondition}
use Rattle.cri_msgs.specs.declared.refusals.Refusal.TheVariants.{Memory, NotFound}
use Rattle.cri_msgs.specs.declared.refusals.Refusal.TheVariants.{ResourceExhausted}
use Rattle.cri_msgs.specs.declared.replies.Answer.{Answer}
use Rattle.cri_msgs.specs.declared.replies.Answer.TheVariants as answers
use Rattle.cri_msgs.specs.Calls.{uid_of}
use Rattle.runtime_cell.specs.declared.cell.State.{State}
use Rattle.runtime_cell.specs.declared.cell.State.TheVariants as state
use Rattle.creation.specs.declared.files.FileAnswers.{FileAnswers}
use Rattle.creation.specs.Files.{Lacks, WasRead}
use Rattle.registry.specs.declared.stage.Stage.{Stage}
use Rattle.registry.specs.declared.stage.Stage.TheVariants.{Unknown, Live, Removed}
use Rattle.registry.specs.Runtime.{In, Runtime, Sandbox, Slot, slot_in}
use Rattle.registry.specs.Runtime.Slot.{Free, There, Gone}
use Rattle.registry.specs.Serves.{Creates, CreatesIn, Enters, IsCrowded, Part, Removes as RemovesRow}
use Rattle.registry.specs.Serves.{RemovesPod}
use Rattle.registry.specs.Serves.{RunsPod, Serves, ServesIn, Shows, Starts, StartsCell, StartsIn, Stops}
use Rattle.registry.specs.Serves.{StopsPod, around_of, part_of}
use Rattle.runtime_laws.specs.Runs.{Happens, IsRun, Link}
use Rattle.runtime_laws.specs.Runs.{Event}
use Rattle.runtime_laws.specs.Runs.Event.{Served}
use Rattle.runtime_history.specs.Lacking.{MayLack}

abbrev lack : Answer
lack = answers.Refused Memory

not_done : lack ≡ answers.Done → ⊥
not_done e = cc

enters : (full : Type 0) (old new : Part) (sandbox : Sandbox) → Enters full old sandbox lack new → full → ⊥
enters full old new sandbox row many = elim row [
  | inl full_one ↦ absurd (other full_one.1.0)
  | inr place ↦ place.0 many
]
  where
    other : lack ≡ answers.Refused ResourceExhausted → ⊥
    other e = cc

runs_pod : (s : Stage) (full : Type 0) (old new : Part) → RunsPod s full old lack new
    → (s ≡ Unknown) × (full → ⊥)
runs_pod Unknown full old new row = (refl, enters full old new _ row)
runs_pod (Live true) full old new row = absurd (not_done row.0)
runs_pod (Live false) full old new row = absurd (other row.0)
  where
    other : lack ≡ answers.Refused FailedPrecondition → ⊥
    other e = cc
runs_pod Removed full old new row = absurd (other row.0)
  where
    other : lack ≡ answers.Refused FailedPrecondition → ⊥
    other e = cc

removes_pod : (s : Stage) (full : Type 0) (old new : Part) → RemovesPod s full old lack new
    → (s ≡ Unknown) × (full → ⊥)
removes_pod Unknown full old new row = (refl, enters full old new _ row)
removes_pod (Live ready) full old new row = absurd (not_done row.0)
removes_pod Removed full old new row = absurd (not_done row.0)

stops_pod : (s : Stage) (old new : Part) (grace : _) → StopsPod s grace old lack new → ⊥
stops_pod Unknown old new grace row = not_done row.0
stops_pod (Live ready) old new grace row = not_done row.0
stops_pod Removed old new grace row = not_done row.0

not_told : (r : Refusal) → (Memory ≡ r → ⊥) → lack ≡ answers.Refused r → ⊥
not_told r other e = other (inside e)
  where
    inside : {a b : Refusal} → answers.Refused a ≡ answers.Refused b → a ≡ b
    inside e = cc

not_held : Memory ≡ FailedPrecondition → ⊥
not_held e = cc

not_there : Memory ≡ NotFound → ⊥
not_there e = cc

not_twice : Memory ≡ AlreadyExists → ⊥
not_twice e = cc

not_many : Memory ≡ ResourceExhausted → ⊥
not_many e = cc

creates_in : (slot : Slot) (ready : Bool) (baseline : _) (container : _) (image : _) (choice : _)
    (files : FileAnswers) (old new : Part)
    → CreatesIn slot ready baseline container image choice files old lack new
    → (slot ≡ Free) × (IsCrowded old.sandbox → ⊥) × (WasRead files ⊎ Lacks choice files Memory)
creates_in Gone ready baseline container image choice files old new row = absurd (not_told _ not_held row.0)
creates_in (There cell) ready baseline container image choice files old new row = elim row [
  | inl same ↦ absurd (other same.1.0)
  | inr others ↦ absurd (not_told _ not_twice others.1.0)
]
  where
    other : lack ≡ answers.Container cell.making.label.id → ⊥
    other e = cc
creates_in Free false baseline container image choice files old new row =
    absurd (not_told _ not_held row.0)
creates_in Free true baseline container image choice files old new row = elim row [
  | inl crowded ↦ absurd (not_told _ not_many crowded.1.0)
  | inr place ↦ (
    refl,
    place.0,
    (elim place.1 [
      | inl refused ↦ inr (subst (Lacks choice files) (sym (inside refused.2.0)) refused.1)
      | inr read ↦ elim read [
        | inl memory ↦ inl memory.0
        | inr made ↦ absurd (other _ made.2)
      ]
    ]),
  )
]
  where
    inside : {a b : Refusal} → answers.Refused a ≡ answers.Refused b → a ≡ b
    inside e = cc

    other : (id : _) → lack ≡ answers.Container id → ⊥
    other id e = cc

creates : (s : Stage) (baseline : _) (container : _) (image : _) (choice : _) (files : FileAnswers)
    (old new : Part) → Creates s baseline container image choice files old lack new
    → (slot_in old.sandbox container ≡ Free) × (IsCrowded old.sandbox → ⊥)
    × (WasRead files ⊎ Lacks choice files Memory)
creates Unknown baseline container image choice files old new row = absurd (not_told _ not_there row.0)
creates (Live ready) baseline container image choice files old new row =
    creates_in (slot_in old.sandbox container) ready baseline container image choice files old new row
creates Removed baseline container image choice files old new row = absurd (not_told _ not_held row.0)

starts_cell : (state : State) (ready : Bool) (container : _) (old new : Part)
    → StartsCell state ready container old lack new → ⊥
starts_cell state.Created true container old new row = not_done row.0
starts_cell state.Created false container old new row = not_told _ not_held row.0
starts_cell state.Running ready container old new row = not_done row.0
starts_cell (state.Exited code killed) ready container old new row = not_done row.0

starts_in : (slot : Slot) (ready : Bool) (container : _) (old new : Part)
    → StartsIn slot ready container old lack new → ⊥
starts_in Free ready container old new row = not_told _ not_there row.0
starts_in (There cell) ready container old new row = starts_cell cell.state ready container old new row
starts_in Gone ready container old new row = not_told _ not_held row.0

starts : (s : Stage) (container : _) (old new : Part) → Starts s container old lack new → ⊥
starts Unknown container old new row = not_told _ not_there row.0
starts (Live ready) container old new row = starts_in
    (slot_in old.sandbox container) ready container old new row
starts Removed container old new row = not_told _ not_held row.0

stops : (slot : Slot) (container : _) (grace : _) (old new : Part)
    → Stops slot container grace old lack new → ⊥
stops Free container grace old new row = not_done row.0
stops (There cell) container grace old new row = not_done row.0
stops Gone container grace old new row = not_done row.0

removes : (slot : Slot) (container : _) (old new : Part) → RemovesRow slot container old lack new → ⊥
removes Free container old new row = not_done row.0
removes (There cell) container old new row = not_done row.0
removes Gone container old new row = not_done row.0

shows : (slot : Slot) (old new : Part) → Shows slot old lack new → ⊥
shows Free old new row = not_told _ not_there row.0
shows (There cell) old new row = other row.0
  where
    other : {s : _} → lack ≡ answers.Status s → ⊥
    other e = cc
shows Gone old new row = not_told _ not_there row.0

pub lacks : (old new : Runtime) (call : Call) (files : FileAnswers) → Serves old call files lack new
    → MayLack old call files
lacks old new call files serves = by_row call (part_of new (uid_of call)) serves.row
  where
    by_row : (c : Call) (p : Part) → ServesIn (around_of old) c files (part_of old (uid_of c)) lack p
        → MayLack old c files
    by_row (RunPodSandbox uid) p row = runs_pod (old.sandbox uid).stage _ (part_of old uid) p row
    by_row (StopPodSandbox uid grace) p row =
        absurd (stops_pod (old.sandbox uid).stage (part_of old uid) p grace row)
    by_row (RemovePodSandbox uid) p row = removes_pod (old.sandbox uid).stage _ (part_of old uid) p row
    by_row (CreateContainer key image choice) p row = creates (old.sandbox key.uid).stage old.baseline
        key.container image choice files (part_of old key.uid) p row
    by_row (StartContainer key) p row =
        absurd (starts (old.sandbox key.uid).stage key.container (part_of old key.uid) p row)
    by_row (StopContainer key grace) p row =
        absurd (stops (slot_in (old.sandbox key.uid) key.container) key.container grace
        (part_of old key.uid) p row)
    by_row (RemoveContainer key) p row =
        absurd (removes (slot_in (old.sandbox key.uid) key.container) key.container
        (part_of old key.uid) p row)
    by_row (ContainerStatus key) p row =
        absurd (shows (slot_in (old.sandbox key.uid) key.container) (part_of old key.uid) p row)
    by_row (ListContainers uid) p row = tt
    by_row (ContainerStatuses uid) p row = tt

happens_in : (baseline : Option (List Insn)) (ls : List Link) (l : Link) → IsRun baseline ls → In l ls
    → Happens l.old l.event l.new
happens_in baseline [] l run at = elim at [ ]
happens_in baseline (x ∷ xs) l run (inl same) =
    subst (λ (y : Link). Happens y.old y.event y.new) (sym same) run.1
happens_in baseline (x ∷ xs) l run (inr later) = happens_in baseline xs l run.2 later

-- the memory that a link of a run may lack
pub lacks_in : (baseline : Option (List Insn)) (ls : List Link) (l : Link) (call : Call)
    (files : FileAnswers)
    → IsRun baseline ls → In l ls → l.event ≡ Served call files lack → MayLack l.old call files
lacks_in baseline ls l call files run at is = lacks l.old l.new call files
    (subst (λ (e : Event). Happens l.old e l.new) is (happens_in baseline ls l run at))
