-- A reported status is that of the key's cell, and so is an exit code.
use Rattle.std.proofs.Common.{◌≡◌, inl, inr, ℕ, List, [], ◌∷◌, map, Bool, refl, sym, ap, subst, ◌∙◌}
use Rattle.std.specs.List.{All, Any}
use Rattle.std.proofs.lemmas.List.Elements.{All-cons, All-nil}
use Rattle.std.proofs.lemmas.List.Sorted.{All-permutation}
use Rattle.cri_msgs.specs.declared.calls.Call.{Call}
use Rattle.cri_msgs.specs.declared.calls.Call.TheVariants.{ContainerStatus, ContainerStatuses}
use Rattle.cri_msgs.specs.declared.keys.ContainerMetadata.{ContainerMetadata}
use Rattle.cri_msgs.specs.declared.keys.Key.{Key}
use Rattle.cri_msgs.specs.declared.lists.ListedStatus.{ListedStatus}
use Rattle.cri_msgs.specs.declared.replies.Answer.{Answer}
use Rattle.cri_msgs.specs.declared.replies.Answer.TheVariants.{Refused, Status, Statuses}
use Rattle.cri_msgs.specs.declared.refusals.Refusal.TheVariants.{NotFound, Memory}
use Rattle.cri_msgs.specs.declared.states.State.TheVariants as told_as
use Rattle.cri_msgs.specs.declared.states.Status as status
use Rattle.cri_msgs.specs.Tells.{TellsExit}
use Rattle.runtime_cell.specs.declared.cell.State.{State}
use Rattle.runtime_cell.specs.declared.cell.State.TheVariants.{Created, Running, Exited}
use Rattle.runtime_cell.specs.Cell.{Cell}
use Rattle.creation.specs.declared.files.FileAnswers.{FileAnswers}
use Rattle.runtime_laws.specs.Laws.{TellsStatus}
use Rattle.registry.specs.Runtime.{In, Runtime, Sandbox, Slot, slot_in, slot_of}
use Rattle.registry.specs.Runtime.Slot.{Free, There, Gone}
use Rattle.registry.specs.Serves.{ListsStatuses, Part, Serves, Shows, listed_status, part_of, state_told}
use Rattle.registry.specs.Serves.{status_of}
use Rattle.runtime_laws.proofs.Slots.{IsKept}
use Rattle.runtime_laws.proofs.Goes.{AreKept, stands_in}

-- the key's cell has the status
abbrev pub HasStatus : Slot → status.Status → Type 0
HasStatus slot status = (cell : Cell) × (slot ≡ There cell) × (status ≡ status_of cell)

status_shown : (slot : Slot) (old new : Part) (says : status.Status) → Shows slot old (Status says) new
    → HasStatus slot says × (new ≡ old)
status_shown Free old new says row = let never : Status says ≡ Refused NotFound = row.0 in absurd cc
status_shown (There cell) old new says row =
    let told : Status says ≡ Status (status_of cell) = row.0 in
    let same : says ≡ status_of cell = cc in
    ((cell, refl, same), row.1)
status_shown Gone old new says row = let never : Status says ≡ Refused NotFound = row.0 in absurd cc

abbrev pub IsListed : List Cell → ListedStatus → Type 0
IsListed cells listed = (cell : Cell) × In cell cells × (listed ≡ listed_status cell)

all_listed : (all cells : List Cell) → ((c : Cell) → In c cells → In c all)
    → All (IsListed all) (map listed_status cells)
all_listed all [] within = All-nil (IsListed all)
all_listed all (c ∷ cs) within =
    All-cons (IsListed all) (listed_status c) (map listed_status cs) (c, within c (inl refl), refl)
    (all_listed all cs (λ d i. within d (inr i)))

listed_has : (s : Sandbox) → IsKept s → (container : ContainerMetadata) (says : status.Status)
    (listed : ListedStatus) → IsListed s.cells listed → listed.container ≡ container → listed.status ≡ says
    → HasStatus (slot_in s container) says
listed_has s kept container says listed (cell, i, is) of tells = (
  cell,
  subst (λ k. slot_in s k ≡ There cell) (ap (λ (l : ListedStatus). l.container) (sym is) ∙ of)
      (stands_in s kept cell i),
  sym tells ∙ ap (λ (l : ListedStatus). l.status) is,
)

statuses_listed : (old new : Part) → IsKept old.sandbox
    → (listed : List ListedStatus) (container : ContainerMetadata) (says : status.Status)
    → Any (λ (item : ListedStatus). (item.container ≡ container) × (item.status ≡ says)) listed
    → ListsStatuses old (Statuses listed) new → HasStatus (slot_in old.sandbox container) says × (new ≡ old)
statuses_listed old new kept listed container says tells (inl row) =
    let never : Statuses listed ≡ Refused Memory = row.0 in absurd cc
statuses_listed old new kept listed container says (at, told, below, reads, is) (inr (items, are, row)) =
    let lists : Statuses listed ≡ Statuses items = row.0 in
    let same : listed ≡ items = cc in
    let all : All (IsListed old.sandbox.cells) listed
    = subst (All (IsListed old.sandbox.cells)) (sym same)
    (All-permutation (IsListed old.sandbox.cells) (map listed_status old.sandbox.cells) items are.all
    (all_listed old.sandbox.cells old.sandbox.cells (λ c i. i))) in (
      listed_has old.sandbox kept container says told
          (subst (IsListed old.sandbox.cells) reads (all at told below)) is.0 is.1,
      row.1,
    )

-- if the sandbox stays the same one, so does the slot
slot_after : (old new : Runtime) (uid : List ℕ) (key : Key) (says : status.Status) → uid ≡ key.uid
    → HasStatus (slot_in (old.sandbox uid) key.container) says × (part_of new uid ≡ part_of old uid)
    → HasStatus (slot_of new key) says
slot_after old new uid key says same (has, stays) =
    subst (λ u. HasStatus (slot_in (new.sandbox u) key.container) says) same
    (subst (λ (p : Part). HasStatus (slot_in p.sandbox key.container) says) (sym stays) has)

pub status_true : (old : Runtime) (call : Call) (files : FileAnswers) (answer : Answer) (new : Runtime)
    (key : Key) (says : status.Status) → AreKept old → Serves old call files answer new
    → TellsStatus call answer key says → HasStatus (slot_of new key) says
status_true old (ContainerStatus asked) files (Status told) new key says kept serves (same, is) =
    let shown : HasStatus (slot_of new asked) told
    = slot_after old new asked.uid asked told refl
    (status_shown (slot_of old asked) (part_of old asked.uid) (part_of new asked.uid) told serves.row) in
    subst (λ k. HasStatus (slot_of new k) says) same (subst (HasStatus (slot_of new asked)) is shown)
status_true old (ContainerStatuses uid) files (Statuses listed) new key says kept serves (same, tells) =
    slot_after old new uid key says same (statuses_listed (part_of old uid) (part_of new uid)
    (kept uid) listed key.container says tells serves.row)
status_true old call files answer new key says kept serves tells = absurd tells

-- an exit is reported by a status
exit_told : (call : Call) (answer : Answer) (key : Key) (code : ℕ) → TellsExit call answer key code
    → (says : status.Status) × TellsStatus call answer key says × (says.state ≡ told_as.Exited code)
exit_told (ContainerStatus asked) (Status told) key code (same, exits) = (told, (same, refl), exits)
exit_told (ContainerStatuses uid) (Statuses listed) key code (same, (at, told, below, reads, is)) =
    (told.status, (same, (at, told, below, reads, (is.0, refl))), is.1)
exit_told call answer key code tells = absurd tells

state_ended : (state : State) (code : ℕ) → state_told state ≡ told_as.Exited code → (by : Bool)
    × (state ≡ Exited code by)
state_ended Created code e = absurd cc
state_ended Running code e = absurd cc
state_ended (Exited own by) code e = let same : own ≡ code = cc in (by, ap (λ (n : ℕ). Exited n by) same)

pub told_true : (old : Runtime) (call : Call) (files : FileAnswers) (answer : Answer) (new : Runtime)
    (key : Key) (code : ℕ) → AreKept old → Serves old call files answer new
    → TellsExit call answer key code → (cell : Cell) × (slot_of new key ≡ There cell)
    × ((by : Bool) × (cell.state ≡ Exited code by))
told_true old call files answer new key code kept serves tells =
    let (says, is, exits) = exit_told call answer key code tells in
    let (cell, there, same) = status_true old call files answer new key says kept serves is in
    (cell, there, state_ended cell.state code (ap (λ (s : status.Status). s.state) (sym same) ∙ exits))
