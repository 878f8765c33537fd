-- The effect of any event of a runtime on each slot: the one way through the table.
use Rattle.std.proofs.Common.{◌≡◌, inl, inr, ℕ, ◌+◌, ◌≤◌, Bool, true, false, List, [], ◌∷◌, ◌++◌, map, Option}
use Rattle.std.proofs.Common.{refl, sym, ap, subst, arith}
use Rattle.std.specs.BTreeSet.{insert_key}
use Rattle.bpf_code.specs.declared.insn.Insn.{Insn}
use Rattle.manifest.specs.declared.profiles.SeccompProfile.{SeccompProfile}
use Rattle.cri_msgs.specs.Order.{container_cmp}
use Rattle.cri_msgs.specs.declared.calls.Call.{Call}
use Rattle.cri_msgs.specs.declared.calls.Call.TheVariants.{RunPodSandbox, StopPodSandbox, RemovePodSandbox}
use Rattle.cri_msgs.specs.declared.calls.Call.TheVariants.{CreateContainer, StartContainer, StopContainer}
use Rattle.cri_msgs.specs.declared.calls.Call.TheVariants.{RemoveContainer, ContainerStatus, ListContainers}
use Rattle.cri_msgs.specs.declared.calls.Call.TheVariants.{ContainerStatuses}
use Rattle.cri_msgs.specs.declared.keys.ContainerMetadata.{ContainerMetadata}
use Rattle.cri_msgs.specs.declared.keys.Key.{Key}
use Rattle.cri_msgs.specs.declared.replies.Answer.{Answer}
use Rattle.cri_msgs.specs.declared.replies.Answer.TheVariants.{Container}
use Rattle.runtime_cell.specs.declared.cell.State.{State}
use Rattle.runtime_cell.specs.declared.cell.State.TheVariants.{Created, Running, Exited}
use Rattle.runtime_cell.specs.Cell.{Cell, killed, started}
use Rattle.creation.specs.declared.files.FileAnswers.{FileAnswers}
use Rattle.registry.specs.declared.stage.Stage.{Stage}
use Rattle.registry.specs.declared.stage.Stage.TheVariants.{Unknown, Live, Removed}
use Rattle.creation.specs.Files.{IsMade}
use Rattle.registry.specs.Runtime.{Sandbox, Slot, change_first, container_in, container_of, drop_first}
use Rattle.registry.specs.Runtime.{fresh_sandbox, is_of, removed, slot_in}
use Rattle.registry.specs.Runtime.Slot.{Free, There, Gone}
use Rattle.cri_msgs.specs.Calls.{uid_of}
use Rattle.registry.specs.Serves.{Around, Creates, CreatesIn, Enters, Lists, ListsStatuses, MakesFrom, Part}
use Rattle.registry.specs.Serves.{Removes, RemovesPod, RunsPod, ServesIn, Shows, Starts, StartsCell, StartsIn}
use Rattle.registry.specs.Serves.{Stops, StopsPod, code_of_grace, grown, with_cell, with_cells}
use Rattle.runtime_laws.specs.Runs.{Event}
use Rattle.runtime_laws.specs.Runs.Event.{Served}
use Rattle.runtime_laws.proofs.Lists.{first_moved, map_moved}
use Rattle.runtime_laws.proofs.Slots.{CellGoes, IsKept, SandboxGoes, grows_at, keeps_making, sandbox_comes}
use Rattle.runtime_laws.proofs.Slots.{sandbox_drops, sandbox_goes, sandbox_moves, sandbox_stays}
use Rattle.runtime_laws.proofs.Slots.{sandbox_stops}
use Rattle.runtime_laws.proofs.Slots.CellGoes.{stays, starts, ends}

-- an event makes the key's cell, as the next one
pub record IsMadeBy (baseline : Option (List Insn)) (old new : ℕ) (event : Event) (key : Key)
    (cell : Cell) : Type 0 where
  pub image : List ℕ
  pub choice : SeccompProfile
  pub files : FileAnswers
  pub event_is : event ≡ Served (CreateContainer key image choice) files (Container (old + 1))
  pub is : IsMade baseline (old + 1) key.container image choice files cell
  pub made : new ≡ old + 1

abbrev pub key_in : List ℕ → ContainerMetadata → Key
key_in uid container = record { uid = uid; container = container }

-- what an event does to a sandbox, among all that were made
pub record PartGoes (baseline : Option (List Insn)) (event : Event) (uid : List ℕ)
    (old new : Part) : Type 0 where
  pub made : old.made ≤ new.made
  pub sandbox : SandboxGoes (λ k. IsMadeBy baseline old.made new.made event (key_in uid k))
      (CellGoes event) old.sandbox new.sandbox

pub still : (event : Event) (c : Cell) → CellGoes event c c
still event c = stays refl

-- the kinds of rows
module _ (baseline : Option (List Insn)) (event : Event) (uid : List ℕ) (old new : Part)
    (kept : IsKept old.sandbox) where
  said : new ≡ old → PartGoes baseline event uid old new
  said e = subst (λ p. PartGoes baseline event uid old p) (sym e) (record {
    made = omega arith;
    sandbox = sandbox_stays (λ k. IsMadeBy baseline old.made old.made event (key_in uid k)) (CellGoes event)
        (still event) old.sandbox kept;
  })

  became : (sandbox : Sandbox) → SandboxGoes (λ k. IsMadeBy baseline old.made old.made event (key_in uid k))
      (CellGoes event) old.sandbox sandbox
      → new ≡ record { made = old.made; sandbox = sandbox } → PartGoes baseline event uid old new
  became sandbox goes e = subst (λ p. PartGoes baseline event uid old p) (sym e)
      (record { made = omega arith; sandbox = goes })

  entered : (full : Type 0) (sandbox : Sandbox) (answer : Answer)
      → SandboxGoes (λ k. IsMadeBy baseline old.made old.made event (key_in uid k))
      (CellGoes event) old.sandbox sandbox
      → Enters full old sandbox answer new → PartGoes baseline event uid old new
  entered full sandbox answer goes (inl row) = said row.1.1
  entered full sandbox answer goes (inr (room, inl row)) = said row.1
  entered full sandbox answer goes (inr (room, inr row)) = became sandbox goes row.1

  runs_pod : (full : Type 0) (answer : Answer) (stage : Stage) → old.sandbox.stage ≡ stage
      → RunsPod stage full old answer new → PartGoes baseline event uid old new
  runs_pod full answer Unknown is row = entered full fresh_sandbox answer
      (sandbox_comes (λ k. IsMadeBy baseline old.made old.made event (key_in uid k))
      (CellGoes event) true old.sandbox is) row
  runs_pod full answer (Live true) is row = said row.1
  runs_pod full answer (Live false) is row = said row.1
  runs_pod full answer Removed is row = said row.1

  removes_pod : (full : Type 0) (answer : Answer) (stage : Stage) → old.sandbox.stage ≡ stage
      → RemovesPod stage full old answer new → PartGoes baseline event uid old new
  removes_pod full answer Unknown is row =
      entered full removed answer (sandbox_goes
      (λ k. IsMadeBy baseline old.made old.made event (key_in uid k)) (CellGoes event) old.sandbox) row
  removes_pod full answer (Live ready) is row =
      became removed (sandbox_goes (λ k. IsMadeBy baseline old.made old.made event (key_in uid k))
      (CellGoes event) old.sandbox) row.1
  removes_pod full answer Removed is row = said row.1

  stops_pod : (grace : ℕ) (answer : Answer) (stage : Stage) → old.sandbox.stage ≡ stage
      → StopsPod stage grace old answer new → PartGoes baseline event uid old new
  stops_pod grace answer Unknown is row = said row.1
  stops_pod grace answer (Live ready) is row =
      became (record {
        stage = Live false;
        cells = map (killed (code_of_grace grace)) old.sandbox.cells;
        used = old.sandbox.used;
      })
      (sandbox_stops (λ k. IsMadeBy baseline old.made old.made event (key_in uid k)) (CellGoes event)
      (keeps_making event) old.sandbox.stage ready is old.sandbox.cells
      (map (killed (code_of_grace grace)) old.sandbox.cells) old.sandbox.used kept
      (map_moved (CellGoes event) (killed (code_of_grace grace)) (λ c. ends (code_of_grace grace) refl)
      old.sandbox.cells))
      row.1
  stops_pod grace answer Removed is row = said row.1

  changed : (container : ContainerMetadata) (f : Cell → Cell) → ((c : Cell) → CellGoes event c (f c))
      → new ≡ record { made = old.made; sandbox = with_cell old.sandbox container f }
      → PartGoes baseline event uid old new
  changed container f each e = became (with_cell old.sandbox container f)
      (sandbox_moves (λ k. IsMadeBy baseline old.made old.made event (key_in uid k)) (CellGoes event)
      (keeps_making event) old.sandbox.stage old.sandbox.cells
      (change_first (is_of container) f old.sandbox.cells) old.sandbox.used kept
      (first_moved (CellGoes event) (is_of container) f (still event) each old.sandbox.cells))
      e

  starts_cell : (ready : Bool) (container : ContainerMetadata) (answer : Answer) (state : State)
      → StartsCell state ready container old answer new → PartGoes baseline event uid old new
  starts_cell true container answer Created row = changed container started (λ c. starts refl) row.1
  starts_cell false container answer Created row = said row.1
  starts_cell ready container answer Running row = said row.1
  starts_cell ready container answer (Exited code by) row = said row.1

  starts_in : (ready : Bool) (container : ContainerMetadata) (answer : Answer) (slot : Slot)
      → StartsIn slot ready container old answer new → PartGoes baseline event uid old new
  starts_in ready container answer Free row = said row.1
  starts_in ready container answer (There cell) row = starts_cell ready container answer cell.state row
  starts_in ready container answer Gone row = said row.1

  starts_by : (container : ContainerMetadata) (answer : Answer) (stage : Stage)
      → Starts stage container old answer new → PartGoes baseline event uid old new
  starts_by container answer Unknown row = said row.1
  starts_by container answer (Live ready) row =
      starts_in ready container answer (slot_in old.sandbox container) row
  starts_by container answer Removed row = said row.1

  stops_cell : (container : ContainerMetadata) (grace : ℕ) (answer : Answer) (slot : Slot)
      → Stops slot container grace old answer new → PartGoes baseline event uid old new
  stops_cell container grace answer Free row = said row.1
  stops_cell container grace answer (There cell) row =
      changed container (killed (code_of_grace grace)) (λ c. ends (code_of_grace grace) refl) row.1
  stops_cell container grace answer Gone row = said row.1

  removes_cell : (container : ContainerMetadata) (answer : Answer) (slot : Slot)
      → Removes slot container old answer new → PartGoes baseline event uid old new
  removes_cell container answer Free row = said row.1
  removes_cell container answer (There cell) row =
      became (with_cells old.sandbox (drop_first (is_of container) old.sandbox.cells))
      (sandbox_drops (λ k. IsMadeBy baseline old.made old.made event (key_in uid k)) (CellGoes event)
      (still event) (is_of container) old.sandbox.stage old.sandbox.cells old.sandbox.used kept)
      row.1
  removes_cell container answer Gone row = said row.1

  shows : (answer : Answer) (slot : Slot) → Shows slot old answer new → PartGoes baseline event uid old new
  shows answer Free row = said row.1
  shows answer (There cell) row = said row.1
  shows answer Gone row = said row.1

  lists : (answer : Answer) → Lists old answer new → PartGoes baseline event uid old new
  lists answer (inl row) = said row.1
  lists answer (inr (items, listing, row)) = said row.1

  lists_statuses : (answer : Answer) → ListsStatuses old answer new → PartGoes baseline event uid old new
  lists_statuses answer (inl row) = said row.1
  lists_statuses answer (inr (items, listing, row)) = said row.1

-- a creation
module _ (baseline : Option (List Insn)) (key : Key) (image : List ℕ) (choice : SeccompProfile)
    (files : FileAnswers) (answer : Answer) (old new : Part) (kept : IsKept old.sandbox) where
  grew : (ready : Bool) → old.sandbox.stage ≡ Live ready → slot_in old.sandbox key.container ≡ Free
      → (cell : Cell) → IsMade baseline (old.made + 1) key.container image choice files cell
      → answer ≡ Container (old.made + 1) → new ≡ grown old key.container cell
      → PartGoes baseline (Served (CreateContainer key image choice) files answer) key.uid old new
  grew ready live free cell is told e =
      let event : Event = Served (CreateContainer key image choice) files answer in
      let same : container_in cell ≡ key.container = ap container_of is.from.label in
      let Made : ContainerMetadata → Cell → Type 0 = λ k.
      IsMadeBy baseline old.made (old.made + 1) event (key_in key.uid k) in
      let made : Made key.container cell = record {
        image = image;
        choice = choice;
        files = files;
        event_is = ap (λ (a : Answer). Served (CreateContainer key image choice) files a) told;
        is = is;
        made = refl;
      } in
      subst (λ p. PartGoes baseline event key.uid old p) (sym e) (record {
        made = omega arith;
        sandbox = subst (λ k. SandboxGoes Made (CellGoes event) old.sandbox
            (record {
              stage = old.sandbox.stage;
              cells = old.sandbox.cells ++ cell ∷ [];
              used =
                  insert_key container_cmp old.sandbox.used k;
            }))
            same
            (grows_at Made (CellGoes event) (still event) old.sandbox.stage ready live old.sandbox.cells
            old.sandbox.used cell
            (subst (λ k. slot_in old.sandbox k ≡ Free) (sym same) free)
            (subst (λ k. Made k cell) (sym same) made) kept);
      })

  makes_from : (ready : Bool) → old.sandbox.stage ≡ Live ready → slot_in old.sandbox key.container ≡ Free
      → MakesFrom baseline key.container image choice files old answer new
      → PartGoes baseline (Served (CreateContainer key image choice) files answer) key.uid old new
  makes_from ready live free (inl (refusal, lacks, row)) =
      said baseline (Served (CreateContainer key image choice) files answer) key.uid old new kept row.1
  makes_from ready live free (inr (inl (read, row))) =
      said baseline (Served (CreateContainer key image choice) files answer) key.uid old new kept row.1
  makes_from ready live free (inr (inr (cell, is, told, e))) = grew ready live free cell is told e

  creates_in : (ready : Bool) → old.sandbox.stage ≡ Live ready → (slot : Slot)
      → slot_in old.sandbox key.container ≡ slot
      → CreatesIn slot ready baseline key.container image choice files old answer new
      → PartGoes baseline (Served (CreateContainer key image choice) files answer) key.uid old new
  creates_in ready live Gone is row = said baseline (Served (CreateContainer key image choice) files answer)
      key.uid old new kept row.1
  creates_in ready live (There cell) is (inl (asked, row)) =
      said baseline (Served (CreateContainer key image choice) files answer) key.uid old new kept row.1
  creates_in ready live (There cell) is (inr (asked, row)) =
      said baseline (Served (CreateContainer key image choice) files answer) key.uid old new kept row.1
  creates_in false live Free is row = said baseline (Served (CreateContainer key image choice) files answer)
      key.uid old new kept row.1
  creates_in true live Free is (inl (crowded, row)) =
      said baseline (Served (CreateContainer key image choice) files answer) key.uid old new kept row.1
  creates_in true live Free is (inr (room, row)) = makes_from true live is row

  creates_by : (stage : Stage) → old.sandbox.stage ≡ stage
      → Creates stage baseline key.container image choice files old answer new
      → PartGoes baseline (Served (CreateContainer key image choice) files answer) key.uid old new
  creates_by Unknown is row = said baseline (Served (CreateContainer key image choice) files answer) key.uid
      old new kept row.1
  creates_by (Live ready) is row = creates_in ready is (slot_in old.sandbox key.container) refl row
  creates_by Removed is row = said baseline (Served (CreateContainer key image choice) files answer) key.uid
      old new kept row.1

pub row_goes : (around : Around) (call : Call) (files : FileAnswers) (old : Part) (answer : Answer)
    (new : Part) → IsKept old.sandbox → ServesIn around call files old answer new
    → PartGoes around.baseline (Served call files answer) (uid_of call) old new
row_goes around (RunPodSandbox uid) files old answer new kept row =
    runs_pod around.baseline (Served (RunPodSandbox uid) files answer) uid old new kept _ answer
    old.sandbox.stage refl row
row_goes around (StopPodSandbox uid grace) files old answer new kept row =
    stops_pod around.baseline (Served (StopPodSandbox uid grace) files answer) uid old new kept grace answer
    old.sandbox.stage refl row
row_goes around (RemovePodSandbox uid) files old answer new kept row =
    removes_pod around.baseline (Served (RemovePodSandbox uid) files answer) uid old new kept _ answer
    old.sandbox.stage refl row
row_goes around (CreateContainer key image choice) files old answer new kept row =
    creates_by around.baseline key image choice files answer old new kept old.sandbox.stage refl row
row_goes around (StartContainer key) files old answer new kept row =
    starts_by around.baseline (Served (StartContainer key) files answer) key.uid old new kept key.container
    answer old.sandbox.stage row
row_goes around (StopContainer key grace) files old answer new kept row =
    stops_cell around.baseline (Served (StopContainer key grace) files answer) key.uid old new kept
    key.container grace answer (slot_in old.sandbox key.container) row
row_goes around (RemoveContainer key) files old answer new kept row =
    removes_cell around.baseline (Served (RemoveContainer key) files answer) key.uid old new kept
    key.container answer (slot_in old.sandbox key.container) row
row_goes around (ContainerStatus key) files old answer new kept row =
    shows around.baseline (Served (ContainerStatus key) files answer) key.uid old new kept answer
    (slot_in old.sandbox key.container) row
row_goes around (ListContainers uid) files old answer new kept row =
    lists around.baseline (Served (ListContainers uid) files answer) uid old new kept answer row
row_goes around (ContainerStatuses uid) files old answer new kept row =
    lists_statuses around.baseline (Served (ContainerStatuses uid) files answer) uid old new kept answer row
