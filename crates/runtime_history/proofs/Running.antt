-- Which cells run after a call: those that ran before, and the one that it started.
use Rattle.std.proofs.Common.{◌≡◌, inl, inr, ℕ, Bool, true, false, cond, List, [], ◌∷◌, ◌++◌, map, refl}
use Rattle.std.proofs.Common.{Option, Some, None, sym, ap, subst, ◌∙◌}
use Rattle.std.specs.Prelude.{◌⊎◌, find, option_map}
use Rattle.cri_msgs.specs.declared.calls.Call.{Call}
use Rattle.cri_msgs.specs.declared.calls.Call.TheVariants.{RunPodSandbox, StopPodSandbox, RemovePodSandbox}
use Rattle.cri_msgs.specs.declared.calls.Call.TheVariants.{CreateContainer, StartContainer, StopContainer}
use Rattle.cri_msgs.specs.declared.calls.Call.TheVariants.{RemoveContainer, ContainerStatus, ListContainers}
use Rattle.cri_msgs.specs.declared.calls.Call.TheVariants.{ContainerStatuses}
use Rattle.cri_msgs.specs.declared.replies.Answer.{Answer}
use Rattle.cri_msgs.specs.declared.replies.Answer.TheVariants.{Container, Done, Refused, Status, Statuses}
use Rattle.cri_msgs.specs.declared.replies.Answer.TheVariants as answers
use Rattle.cri_msgs.specs.Calls.{uid_of}
use Rattle.runtime_cell.specs.declared.cell.State.{State}
use Rattle.runtime_cell.specs.declared.cell.State.TheVariants as state
use Rattle.runtime_cell.specs.Cell.{Cell, killed, killed_state, started}
use Rattle.creation.specs.declared.files.FileAnswers.{FileAnswers}
use Rattle.registry.specs.declared.stage.Stage.{Stage}
use Rattle.registry.specs.declared.stage.Stage.TheVariants.{Unknown, Live, Removed}
use Rattle.registry.specs.Runtime.{In, Runtime, Sandbox, Slot, change_first, drop_first, id_of, is_of}
use Rattle.registry.specs.Runtime.{slot_in}
use Rattle.registry.specs.Runtime.Slot.{Free, There, Gone}
use Rattle.registry.specs.Serves.{Around, CreatesIn, Creates, Enters, Part, RemovesPod, RunsPod, Says, Serves}
use Rattle.registry.specs.Serves.{ServesIn, Shows, Starts, StartsCell, StartsIn, Stops, StopsPod}
use Rattle.registry.specs.Serves.{around_of, code_of_grace, part_of}
use Rattle.registry.specs.Serves.{Removes as RemovesRow}
use Rattle.registry.proofs.Texts.{text_cases}
use Rattle.runtime_history.specs.History.{IsRunning}
use Rattle.runtime_history.specs.Sandboxes.{if_done, started_by, to_start}
use Rattle.runtime_history.specs.Agreed.{cells_in}

in_changed_by : (f : Cell → Cell) (x : Cell) (xs ys : List Cell) (o : Option Cell) (cell : Cell) (test : Bool)
    → (In cell ys → In cell xs ⊎ ((was : Cell) × (o ≡ Some was) × (cell ≡ f was)))
    → In cell (cond test (f x ∷ xs) (x ∷ ys))
    → In cell (x ∷ xs) ⊎ ((was : Cell) × (cond test (Some x) o ≡ Some was) × (cell ≡ f was))
in_changed_by f x xs ys o cell true rest (inl here) = inr (x, refl, here)
in_changed_by f x xs ys o cell true rest (inr there) = inl (inr there)
in_changed_by f x xs ys o cell false rest (inl here) = inl (inl here)
in_changed_by f x xs ys o cell false rest (inr there) = elim (rest there) [
  | inl still ↦ inl (inr still)
  | inr changed ↦ inr changed
]

in_changed : (test : Cell → Bool) (f : Cell → Cell) (xs : List Cell) (cell : Cell)
    → In cell (change_first test f xs)
    → In cell xs ⊎ ((was : Cell) × (find test xs ≡ Some was) × (cell ≡ f was))
in_changed test f [] cell at = absurd at
in_changed test f (x ∷ xs) cell at = in_changed_by f x xs (change_first test f xs) (find test xs) cell
    (test x) (in_changed test f xs cell) at

in_dropped_by : (x : Cell) (xs ys : List Cell) (cell : Cell) (test : Bool) → (In cell ys → In cell xs)
    → In cell (cond test xs (x ∷ ys)) → In cell (x ∷ xs)
in_dropped_by x xs ys cell true rest at = inr at
in_dropped_by x xs ys cell false rest (inl here) = inl here
in_dropped_by x xs ys cell false rest (inr there) = inr (rest there)

in_dropped : (test : Cell → Bool) (xs : List Cell) (cell : Cell) → In cell (drop_first test xs) → In cell xs
in_dropped test [] cell at = at
in_dropped test (x ∷ xs) cell at = in_dropped_by x xs (drop_first test xs) cell (test x)
    (in_dropped test xs cell) at

in_mapped : (f : Cell → Cell) (xs : List Cell) (cell : Cell) → In cell (map f xs)
    → (was : Cell) × (cell ≡ f was)
in_mapped f [] cell at = absurd at
in_mapped f (x ∷ xs) cell (inl here) = (x, here)
in_mapped f (x ∷ xs) cell (inr there) = in_mapped f xs cell there

in_added : (xs : List Cell) (more cell : Cell) → In cell (xs ++ more ∷ []) → In cell xs ⊎ (cell ≡ more)
in_added [] more cell (inl here) = inr here
in_added [] more cell (inr there) = absurd there
in_added (x ∷ xs) more cell (inl here) = inl (inl here)
in_added (x ∷ xs) more cell (inr there) = elim (in_added xs more cell there) [
  | inl still ↦ inl (inr still)
  | inr same ↦ inr same
]

killed_stops : (code : ℕ) (s : State) → killed_state code s ≡ state.Running → ⊥
killed_stops code state.Created runs = cc
killed_stops code state.Running runs = cc
killed_stops code (state.Exited own by) runs = cc

-- the cell ran before, or has the id that was started
abbrev Ran : List Cell → Option ℕ → Cell → Type 0
Ran cells id cell = In cell cells ⊎ (id ≡ Some (id_of cell))

abbrev Still : Part → Option ℕ → Part → Type 0
Still old id new = (cell : Cell) → In cell new.sandbox.cells → cell.state ≡ state.Running
    → Ran old.sandbox.cells id cell

says : (old new : Part) (id : Option ℕ) (answer said : Answer) → Says old answer said new → Still old id new
says old new id answer said row cell at runs =
    inl (subst (λ (p : Part). In cell p.sandbox.cells) row.1 at)

-- the sandbox becomes one with these cells
comes : (old new : Part) (id : Option ℕ) (s : Sandbox) (answer said : Answer)
    → ((cell : Cell) → In cell s.cells → cell.state ≡ state.Running → Ran old.sandbox.cells id cell)
    → (answer ≡ said) × (new ≡ record { made = old.made; sandbox = s }) → Still old id new
comes old new id s answer said each row cell at runs =
    each cell (subst (λ (p : Part). In cell p.sandbox.cells) row.1 at) runs

enters : (full : Type 0) (old new : Part) (id : Option ℕ) (s : Sandbox) (answer : Answer) → s.cells ≡ []
    → Enters full old s answer new → Still old id new
enters full old new id s answer none row = elim row [
  | inl many ↦ says old new id answer _ many.1
  | inr place ↦ elim place.1 [
    | inl memory ↦ says old new id answer _ memory
    | inr made ↦ comes old new id s answer _
        (λ cell at runs. absurd (subst (λ (l : List Cell). In cell l) none at)) made
  ]
]

runs_pod : (s : Stage) (full : Type 0) (old new : Part) (id : Option ℕ) (answer : Answer)
    → RunsPod s full old answer new → Still old id new
runs_pod Unknown full old new id answer row = enters full old new id _ answer refl row
runs_pod (Live true) full old new id answer row = says old new id answer _ row
runs_pod (Live false) full old new id answer row = says old new id answer _ row
runs_pod Removed full old new id answer row = says old new id answer _ row

stops_pod : (s : Stage) (grace : ℕ) (old new : Part) (id : Option ℕ) (answer : Answer)
    → StopsPod s grace old answer new → Still old id new
stops_pod Unknown grace old new id answer row = says old new id answer _ row
stops_pod (Live ready) grace old new id answer row = comes old new id _ answer _
    (λ cell at runs. let was = in_mapped _ old.sandbox.cells cell at in
    absurd (killed_stops _ was.0.state (sym (ap (λ (c : Cell). c.state) was.1) ∙ runs))) row
stops_pod Removed grace old new id answer row = says old new id answer _ row

removes_pod : (s : Stage) (full : Type 0) (old new : Part) (id : Option ℕ) (answer : Answer)
    → RemovesPod s full old answer new → Still old id new
removes_pod Unknown full old new id answer row = enters full old new id _ answer refl row
removes_pod (Live ready) full old new id answer row = comes old new id _ answer _
    (λ cell at runs. absurd at) row
removes_pod Removed full old new id answer row = says old new id answer _ row

made_in : (s : Slot) (ready : Bool) (baseline : _) (container : _) (image : _) (choice : _)
    (files : FileAnswers) (old new : Part) (id : Option ℕ) (answer : Answer)
    → CreatesIn s ready baseline container image choice files old answer new → Still old id new
made_in Gone ready baseline container image choice files old new id answer row = says old new id answer _ row
made_in (There there) ready baseline container image choice files old new id answer row = elim row [
  | inl asked ↦ says old new id answer _ asked.1
  | inr other ↦ says old new id answer _ other.1
]
made_in Free false baseline container image choice files old new id answer row = says old new id answer _ row
made_in Free true baseline container image choice files old new id answer row = elim row [
  | inl crowded ↦ says old new id answer _ crowded.1
  | inr place ↦ elim place.1 [
    | inl lacks ↦ says old new id answer _ lacks.2
    | inr read ↦ elim read [
      | inl memory ↦ says old new id answer _ memory.1
      | inr made ↦ λ cell at runs. elim (in_added old.sandbox.cells made.0 cell
          (subst (λ (p : Part). In cell p.sandbox.cells) made.3 at)) [
            | inl still ↦ inl still
            | inr same ↦ absurd (not_fresh made.0.state (ap (λ (c : Cell). c.state) made.1.fresh)
                (sym (ap (λ (c : Cell). c.state) same) ∙ runs))
          ]
    ]
  ]
]
  where
    not_fresh : (s : State) → s ≡ state.Created → s ≡ state.Running → ⊥
    not_fresh s created runs = cc

creates : (s : Stage) (baseline : _) (container : _) (image : _) (choice : _)
    (files : FileAnswers) (old new : Part) (id : Option ℕ) (answer : Answer)
    → Creates s baseline container image choice files old answer new → Still old id new
creates Unknown baseline container image choice files old new id answer row = says old new id answer _ row
creates (Live ready) baseline container image choice files old new id answer row =
    made_in (slot_in old.sandbox container) ready baseline container image choice files old new id answer row
creates Removed baseline container image choice files old new id answer row = says old new id answer _ row

-- the container's cell is started, if it was not
starts_cell : (s : State) (ready : Bool) (container : _) (old new : Part) (answer : Answer)
    → StartsCell s ready container old answer new
    → Still old (if_done answer (option_map id_of (find (is_of container) old.sandbox.cells))) new
starts_cell state.Created true container old new answer row = comes old new _ _ answer _
    (λ cell at runs. elim (in_changed (is_of container) started old.sandbox.cells cell at) [
      | inl still ↦ inl still
      | inr changed ↦ inr (ap (λ a. if_done a (option_map id_of (find (is_of container) old.sandbox.cells)))
          row.0
          ∙ ap (option_map id_of) changed.1 ∙ ap (λ (c : Cell). Some (id_of c)) (sym changed.2))
    ]) row
starts_cell state.Created false container old new answer row = says old new _ answer _ row
starts_cell state.Running ready container old new answer row = says old new _ answer _ row
starts_cell (state.Exited code by) ready container old new answer row = says old new _ answer _ row

starts_in : (s : Slot) (ready : Bool) (container : _) (old new : Part) (answer : Answer)
    → StartsIn s ready container old answer new
    → Still old (if_done answer (option_map id_of (find (is_of container) old.sandbox.cells))) new
starts_in Free ready container old new answer row = says old new _ answer _ row
starts_in (There cell) ready container old new answer row =
    starts_cell cell.state ready container old new answer row
starts_in Gone ready container old new answer row = says old new _ answer _ row

starts : (s : Stage) (container : _) (old new : Part) (answer : Answer) → Starts s container old answer new
    → Still old (if_done answer (option_map id_of (find (is_of container) old.sandbox.cells))) new
starts Unknown container old new answer row = says old new _ answer _ row
starts (Live ready) container old new answer row =
    starts_in (slot_in old.sandbox container) ready container old new answer row
starts Removed container old new answer row = says old new _ answer _ row

stops : (s : Slot) (container : _) (grace : ℕ) (old new : Part) (id : Option ℕ) (answer : Answer)
    → Stops s container grace old answer new → Still old id new
stops Free container grace old new id answer row = says old new id answer _ row
stops (There cell) container grace old new id answer row = comes old new id _ answer _
    (λ cell at runs. elim (in_changed (is_of container) (killed (code_of_grace grace)) old.sandbox.cells cell
    at) [
      | inl still ↦ inl still
      | inr changed ↦ absurd (killed_stops _ changed.0.state (sym (ap (λ (c : Cell). c.state) changed.2)
          ∙ runs))
    ]) row
stops Gone container grace old new id answer row = says old new id answer _ row

removes : (s : Slot) (container : _) (old new : Part) (id : Option ℕ) (answer : Answer)
    → RemovesRow s container old answer new → Still old id new
removes Free container old new id answer row = says old new id answer _ row
removes (There cell) container old new id answer row = comes old new id _ answer _
    (λ cell at runs. inl (in_dropped (is_of container) old.sandbox.cells cell at)) row
removes Gone container old new id answer row = says old new id answer _ row

shows : (s : Slot) (old new : Part) (id : Option ℕ) (answer : Answer) → Shows s old answer new
    → Still old id new
shows Free old new id answer row = says old new id answer _ row
shows (There cell) old new id answer row = says old new id answer _ row
shows Gone old new id answer row = says old new id answer _ row

row_still : (around : Around) (call : Call) (files : FileAnswers) (old new : Part) (answer : Answer)
    → ServesIn around call files old answer new → Still old (started_by call answer old.sandbox.cells) new
row_still around (RunPodSandbox uid) files old new answer row =
    runs_pod old.sandbox.stage _ old new _ answer row
row_still around (StopPodSandbox uid grace) files old new answer row =
    stops_pod old.sandbox.stage grace old new _ answer row
row_still around (RemovePodSandbox uid) files old new answer row =
    removes_pod old.sandbox.stage _ old new _ answer row
row_still around (CreateContainer key image choice) files old new answer row =
    creates old.sandbox.stage _ _ _ _ files old new _ answer row
row_still around (StartContainer key) files old new answer row =
    starts old.sandbox.stage key.container old new answer row
row_still around (StopContainer key grace) files old new answer row =
    stops (slot_in old.sandbox key.container) key.container grace old new _ answer row
row_still around (RemoveContainer key) files old new answer row =
    removes (slot_in old.sandbox key.container) key.container old new _ answer row
row_still around (ContainerStatus key) files old new answer row =
    shows (slot_in old.sandbox key.container) old new _ answer row
row_still around (ListContainers uid) files old new answer row =
    elim row [ inl memory ↦ says old new _ answer _ memory | inr told ↦ says old new _ answer _ told.2 ]
row_still around (ContainerStatuses uid) files old new answer row =
    elim row [ inl memory ↦ says old new _ answer _ memory | inr told ↦ says old new _ answer _ told.2 ]

-- a cell that runs after a call was served ran before, or is the one that the call started
pub served_runs : (s s' : Runtime) (call : Call) (files : FileAnswers) (answer : Answer) (id : ℕ)
    → Serves s call files answer s' → IsRunning s' id
    → IsRunning s id ⊎ (started_by call answer (cells_in s (uid_of call)) ≡ Some id)
served_runs s s' call files answer id serves runs = elim (text_cases runs.uid (uid_of call)) [
  | inl same ↦ here same
  | inr other ↦ inl (record {
    uid = runs.uid;
    cell = runs.cell;
    there = subst (λ (b : Sandbox). In runs.cell b.cells) (serves.others runs.uid other) runs.there;
    is = runs.is;
    runs = runs.runs;
  })
]
  where
    here : runs.uid ≡ uid_of call
        → IsRunning s id ⊎ (started_by call answer (cells_in s (uid_of call)) ≡ Some id)
    here same = elim (row_still (around_of s) call files (part_of s (uid_of call)) (part_of s' (uid_of call))
        answer serves.row runs.cell
        (subst (λ (u : List ℕ). In runs.cell (cells_in s' u)) same runs.there) runs.runs) [
          | inl still ↦ inl (record {
            uid = uid_of call;
            cell = runs.cell;
            there = still;
            is = runs.is;
            runs = runs.runs;
          })
          | inr started ↦ inr (started ∙ ap Some runs.is)
        ]

none_done : (answer : Answer) → if_done answer None ≡ None
none_done (Refused refusal) = refl
none_done Done = refl
none_done (Container id) = refl
none_done (Status status) = refl
none_done (answers.List items) = refl
none_done (Statuses items) = refl

none_there : (call : Call) → to_start call [] ≡ None
none_there (RunPodSandbox uid) = refl
none_there (StopPodSandbox uid grace) = refl
none_there (RemovePodSandbox uid) = refl
none_there (CreateContainer key image choice) = refl
none_there (StartContainer key) = refl
none_there (StopContainer key grace) = refl
none_there (RemoveContainer key) = refl
none_there (ContainerStatus key) = refl
none_there (ListContainers uid) = refl
none_there (ContainerStatuses uid) = refl

-- if there is no cell, none is started
pub none_started : (call : Call) (answer : Answer) (cells : List Cell) (id : ℕ) → cells ≡ []
    → started_by call answer cells ≡ Some id → ⊥
none_started call answer cells id empty is =
    let none : started_by call answer cells ≡ None = ap (started_by call answer) empty
    ∙ ap (if_done answer) (none_there call) ∙ none_done answer in
    not_both (started_by call answer cells) none is
  where
    not_both : (o : Option ℕ) → o ≡ None → o ≡ Some id → ⊥
    not_both o none is = cc
