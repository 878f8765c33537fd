-- The effect of any event on a runtime as a whole, and what it keeps.
use Rattle.std.proofs.Common.{◌≡◌, ◌≢◌, inl, inr, ℕ, ◌+◌, ◌≤◌, Bool, true, false, List, ◌∷◌, ◌++◌, Option}
use Rattle.std.proofs.Common.{Some, None, refl, sym, ap, subst, ◌∙◌, arith}
use Rattle.std.specs.Prelude.{◌⊎◌}
use Rattle.std.specs.Str.{bytes_eq}
use Rattle.std.specs.List.{find, list_any}
use Rattle.std.proofs.lemmas.Bool.{false≢true}
use Rattle.std.proofs.lemmas.Slice.Eq.{bytes_eq-Decides}
use Rattle.bpf_code.specs.declared.insn.Insn.{Insn}
use Rattle.cri_msgs.specs.declared.calls.Call.{Call}
use Rattle.cri_msgs.specs.declared.calls.Call.TheVariants.{CreateContainer}
use Rattle.cri_msgs.specs.declared.keys.ContainerMetadata.{ContainerMetadata}
use Rattle.cri_msgs.specs.declared.keys.Key.{Key}
use Rattle.cri_msgs.specs.declared.replies.Answer.{Answer}
use Rattle.cri_msgs.specs.declared.replies.Answer.TheVariants.{Container}
use Rattle.runtime_cell.specs.declared.cell.Did.{Did}
use Rattle.runtime_cell.specs.declared.label.Label.{Label}
use Rattle.runtime_cell.specs.Cell.{Cell, Making, Steps, killed}
use Rattle.creation.specs.declared.files.FileAnswers.{FileAnswers}
use Rattle.registry.specs.declared.stage.Stage.{Stage}
use Rattle.registry.specs.declared.stage.Stage.TheVariants.{Unknown, Live, Removed}
use Rattle.registry.specs.Runtime.{In, Runtime, Sandbox, Slot, container_in, container_of, empty, id_of}
use Rattle.registry.specs.Runtime.{is_of, is_same, slot_at, slot_by, slot_in, slot_of}
use Rattle.registry.specs.Runtime.Slot.{Free, There, Gone}
use Rattle.cri_msgs.specs.Calls.{uid_of}
use Rattle.registry.specs.Serves.{Serves, around_of, part_of, with_cells}
use Rattle.runtime_core.specs.Steps.{MayStep, MovesCell}
use Rattle.runtime_laws.specs.Runs.{Event, Happens}
use Rattle.runtime_laws.specs.Runs.Event.{Served, Stepped, Killed}
use Rattle.runtime_laws.proofs.Lists.{AreMoved, Keeps, find_here, find_other, in_split, split_moved}
use Rattle.runtime_laws.proofs.Slots.{CellGoes, IsDead, IsKept, SandboxGoes, SlotGoes, empty_kept}
use Rattle.runtime_laws.proofs.Slots.{keeps_making, making_stays, sandbox_moves, sandbox_stays}
use Rattle.runtime_laws.proofs.Slots.CellGoes.{ends, steps}
use Rattle.runtime_laws.proofs.Steps.{IsMadeBy, PartGoes, key_in, row_goes, still}

pub uid_cases : (u v : List ℕ) → (u ≡ v) ⊎ (u ≢ v)
uid_cases u v = by (bytes_eq u v) refl
  where
    by : (test : Bool) → bytes_eq u v ≡ test → (u ≡ v) ⊎ (u ≢ v)
    by true e = inl ((bytes_eq-Decides u v).0 e)
    by false e = inr (λ same. false≢true (sym e ∙ (bytes_eq-Decides u v).1 same))

abbrev pub IsMadeIn : Runtime → Event → Runtime → Key → Cell → Type 0
IsMadeIn old event new key = IsMadeBy old.baseline old.made new.made event key

pub record StepGoes (old : Runtime) (event : Event) (new : Runtime) : Type 0 where
  pub made : old.made ≤ new.made
  pub baseline : new.baseline ≡ old.baseline
  pub sandbox : (uid : List ℕ) → SandboxGoes (λ k. IsMadeIn old event new (key_in uid k)) (CellGoes event)
      (old.sandbox uid) (new.sandbox uid)

abbrev pub AreKept : Runtime → Type 0
AreKept r = (uid : List ℕ) → IsKept (r.sandbox uid)

-- a sandbox that stays the same one
same_goes : (old : Runtime) (event : Event) (new : Runtime) (uid : List ℕ) → AreKept old
    → new.sandbox uid ≡ old.sandbox uid
    → SandboxGoes (λ k. IsMadeIn old event new (key_in uid k)) (CellGoes event) (old.sandbox uid)
    (new.sandbox uid)
same_goes old event new uid kept same =
    subst (λ s. SandboxGoes (λ k. IsMadeIn old event new (key_in uid k)) (CellGoes event) (old.sandbox uid) s)
    (sym same)
    (sandbox_stays (λ k. IsMadeIn old event new (key_in uid k)) (CellGoes event) (still event)
    (old.sandbox uid) (kept uid))

-- one sandbox changes, and the others stay
one_goes : (old : Runtime) (event : Event) (new : Runtime) (at : List ℕ) → AreKept old
    → ((uid : List ℕ) → uid ≢ at → new.sandbox uid ≡ old.sandbox uid)
    → SandboxGoes (λ k. IsMadeIn old event new (key_in at k)) (CellGoes event) (old.sandbox at)
    (new.sandbox at) → (uid : List ℕ)
    → SandboxGoes (λ k. IsMadeIn old event new (key_in uid k)) (CellGoes event) (old.sandbox uid)
    (new.sandbox uid)
one_goes old event new at kept others here uid = elim (uid_cases uid at) [
  | inl same ↦ subst (λ u. SandboxGoes (λ k. IsMadeIn old event new (key_in u k)) (CellGoes event)
      (old.sandbox u) (new.sandbox u)) (sym same) here
  | inr differs ↦ same_goes old event new uid kept (others uid differs)
]

served_goes : (old : Runtime) (call : Call) (files : FileAnswers) (answer : Answer) (new : Runtime)
    → AreKept old → Serves old call files answer new → StepGoes old (Served call files answer) new
served_goes old call files answer new kept serves =
    let goes : PartGoes old.baseline (Served call files answer) (uid_of call) (part_of old (uid_of call))
    (part_of new (uid_of call))
    = row_goes (around_of old) call files (part_of old (uid_of call)) answer (part_of new (uid_of call))
    (kept (uid_of call)) serves.row in
    record {
      made = goes.made;
      baseline = serves.baseline;
      sandbox = one_goes old (Served call files answer) new (uid_of call) kept serves.others goes.sandbox;
    }

nothing_goes : (old : Runtime) (event : Event) (new : Runtime) → AreKept old → new ≡ old
    → StepGoes old event new
nothing_goes old event new kept same = record {
  made = let e : new.made ≡ old.made = ap (λ (r : Runtime). r.made) same in omega arith;
  baseline = ap (λ (r : Runtime). r.baseline) same;
  sandbox = λ uid. same_goes old event new uid kept (ap (λ (r : Runtime). r.sandbox uid) same);
}

moved_goes : (old : Runtime) (id : ℕ) (Moves : Cell → Cell → Type 0) (event : Event) (new : Runtime)
    → ((cell later : Cell) → id_of cell ≡ id → Moves cell later → CellGoes event cell later)
    → AreKept old → MovesCell old id Moves new → StepGoes old event new
moved_goes old id Moves event new goes kept moves =
    let Made : ContainerMetadata → Cell → Type 0 = λ k. IsMadeIn old event new (key_in moves.uid k) in
    let was : Sandbox = old.sandbox moves.uid in
    let moved : AreMoved (CellGoes event) was.cells (moves.front ++ moves.later ∷ moves.back)
    = subst (λ cs. AreMoved (CellGoes event) cs (moves.front ++ moves.later ∷ moves.back)) (sym moves.stands)
    (split_moved (CellGoes event) (still event) moves.cell moves.later
    (goes moves.cell moves.later moves.is moves.moves) moves.front moves.back) in
    record {
      made = let e : new.made ≡ old.made = moves.made in omega arith;
      baseline = moves.baseline;
      sandbox = one_goes old event new moves.uid kept moves.others
          (subst (λ s. SandboxGoes Made (CellGoes event) was s) (sym moves.sandbox)
          (sandbox_moves Made (CellGoes event) (keeps_making event) was.stage was.cells
          (moves.front ++ moves.later ∷ moves.back) was.used (kept moves.uid) moved));
    }

pub step_goes : (old : Runtime) (event : Event) (new : Runtime) → AreKept old → Happens old event new
    → StepGoes old event new
step_goes old (Served call files answer) new kept happens = served_goes old call files answer new kept happens
step_goes old (Stepped id None) new kept happens = nothing_goes old (Stepped id None) new kept happens.1
step_goes old (Stepped id (Some did)) new kept happens =
    moved_goes old id (λ cell later. Steps cell did later) (Stepped id (Some did)) new
    (λ cell later is moves. steps did (ap (λ (i : ℕ). Stepped i (Some did)) (sym is)) moves) kept happens
step_goes old (Killed id code None) new kept happens =
    nothing_goes old (Killed id code None) new kept happens.1
step_goes old (Killed id code (Some found)) new kept happens =
    moved_goes old id (λ cell later. later ≡ killed code cell) (Killed id code (Some found)) new
    (λ cell later is moves. ends code moves) kept happens

-- the slots of keys alone
abbrev pub KeyGoes : Runtime → Event → Runtime → Key → Type 0
KeyGoes old event new key = SlotGoes (IsMadeIn old event new key) (CellGoes event) (slot_of old key)
    (slot_of new key)

pub key_goes : (old : Runtime) (event : Event) (new : Runtime) → StepGoes old event new → (key : Key)
    → KeyGoes old event new key
key_goes old event new goes key = (goes.sandbox key.uid).slots key.container

-- the cell that is found under a key is its own
found_at : (stage : Stage) (s : Sandbox) (k : ContainerMetadata) (c : Cell) → slot_at stage s k ≡ There c
    → find (is_of k) s.cells ≡ Some c
found_at Unknown s k c e = absurd cc
found_at (Live ready) s k c e = by (find (is_of k) s.cells) (list_any (is_same k) s.used) e
  where
    by : (o : Option Cell) (used : Bool) → slot_by o used ≡ There c → o ≡ Some c
    by (Some d) used e = let same : d ≡ c = cc in ap {B = Option Cell} Some same
    by None true e = absurd cc
    by None false e = absurd cc
found_at Removed s k c e = absurd cc

-- a cell of a list is found under its container
stands_at : (stage : Stage) (s : Sandbox) → s.stage ≡ stage → IsKept s → (c : Cell) → In c s.cells
    → slot_at stage s (container_in c) ≡ There c
stands_at Unknown s is kept c i = absurd (subst (In c) (kept.dead (subst IsDead (sym is) tt)) i)
stands_at (Live ready) s is kept c i = ap (λ o. slot_by o (list_any (is_same (container_in c)) s.used))
    (find_here s.cells kept.distinct c i)
stands_at Removed s is kept c i = absurd (subst (In c) (kept.dead (subst IsDead (sym is) tt)) i)

pub stands_in : (s : Sandbox) → IsKept s → (c : Cell) → In c s.cells → slot_in s (container_in c) ≡ There c
stands_in s kept c i = stands_at s.stage s refl kept c i

-- each cell has an id of its own, and none is above how many were made
pub record HasIds (r : Runtime) : Type 0 where
  pub bounded : (key : Key) (c : Cell) → slot_of r key ≡ There c → id_of c ≤ r.made
  pub apart : (key other : Key) (c d : Cell) → slot_of r key ≡ There c → slot_of r other ≡ There d
      → id_of c ≡ id_of d → key ≡ other

-- a cell that is there now came from one with its making, or was made by the event
abbrev pub CameFrom : Runtime → Event → Runtime → Key → Cell → Type 0
CameFrom old event new key c = ((before : Cell) × (slot_of old key ≡ There before)
    × CellGoes event before c) ⊎ (IsMadeIn old event new key c × (slot_of old key ≡ Free))

pub came_from : (old : Runtime) (event : Event) (new : Runtime) (key : Key) (c : Cell)
    → KeyGoes old event new key → slot_of new key ≡ There c → CameFrom old event new key c
came_from old event new key c goes is =
    by (slot_of old key) refl (subst (λ slot.
    SlotGoes (IsMadeIn old event new key) (CellGoes event) (slot_of old key) slot) is goes)
  where
    by : (slot : Slot) → slot_of old key ≡ slot
        → SlotGoes (IsMadeIn old event new key) (CellGoes event) slot (There c) → CameFrom old event new key c
    by Free was made = inr (made, was)
    by (There before) was goes = inl (before, was, goes)
    by Gone was goes = absurd goes

pub same_id : (old : Runtime) (event : Event) (before c : Cell) → CellGoes event before c
    → id_of c ≡ id_of before
same_id old event before c goes = ap (λ (m : Making). m.label.id) (keeps_making event before c goes)

pub made_id : (old : Runtime) (event : Event) (new : Runtime) (key : Key) (c : Cell)
    → IsMadeIn old event new key c → id_of c ≡ old.made + 1
made_id old event new key c made = ap (λ (l : Label). l.id) made.is.from.label

pub has_ids : (old : Runtime) (event : Event) (new : Runtime) → StepGoes old event new → HasIds old
    → HasIds new
has_ids old event new goes ids = record {
  bounded = λ key c is. below key c (came_from old event new key c (key_goes old event new goes key) is);
  apart = λ key other c d is there same.
      differ key other c d (came_from old event new key c (key_goes old event new goes key) is)
      (came_from old event new other d (key_goes old event new goes other) there) same;
}
  where
    below : (key : Key) (c : Cell) → CameFrom old event new key c → id_of c ≤ new.made
    below key c (inl (before, was, goes')) =
        let a : id_of c ≡ id_of before = same_id old event before c goes' in
        let b : id_of before ≤ old.made = ids.bounded key before was in
        let m : old.made ≤ new.made = goes.made in
        omega arith
    below key c (inr (made, was)) =
        let a : id_of c ≡ old.made + 1 = made_id old event new key c made in
        let m : new.made ≡ old.made + 1 = made.made in
        omega arith

    clash : (key other : Key) (c d : Cell)
        → ((before : Cell) × (slot_of old key ≡ There before) × CellGoes event before c)
        → IsMadeIn old event new other d → id_of c ≡ id_of d → ⊥
    clash key other c d one made same =
        let a : id_of c ≡ id_of one.0 = same_id old event one.0 c one.2 in
        let b : id_of one.0 ≤ old.made = ids.bounded key one.0 one.1 in
        let e : id_of d ≡ old.made + 1 = made_id old event new other d made in
        omega arith

    differ : (key other : Key) (c d : Cell) → CameFrom old event new key c → CameFrom old event new other d
        → id_of c ≡ id_of d → key ≡ other
    differ key other c d (inl one) (inl two) same =
        ids.apart key other one.0 two.0 one.1 two.1 (sym (same_id old event one.0 c one.2) ∙ same
        ∙ same_id old event two.0 d two.2)
    differ key other c d (inl one) (inr (made, was)) same = absurd (clash key other c d one made same)
    differ key other c d (inr (made, was)) (inl two) same = absurd (clash other key d c two made (sym same))
    differ key other c d (inr (made, was)) (inr (made', was')) same =
        let e : Served (CreateContainer key made.image made.choice) made.files (Container (old.made + 1))
        ≡ Served (CreateContainer other made'.image made'.choice) made'.files (Container (old.made + 1))
        = sym made.event_is ∙ made'.event_is in
        cc

-- what lasts through every run
pub record Lasts (r : Runtime) : Type 0 where
  pub kept : AreKept r
  pub ids : HasIds r

pub empty_lasts : (baseline : Option (List Insn)) → Lasts (empty baseline)
empty_lasts baseline = record {
  kept = λ uid. empty_kept Unknown;
  ids = record { bounded = λ key c e. absurd cc; apart = λ key other c d e there same. absurd cc };
}

pub lasts_on : (old : Runtime) (event : Event) (new : Runtime) → StepGoes old event new → Lasts old
    → Lasts new
lasts_on old event new goes lasts = record {
  kept = λ uid. (goes.sandbox uid).kept;
  ids =
      has_ids old event new goes lasts.ids;
}

same_slot : (stage : Stage) (old new : Sandbox) (k : ContainerMetadata)
    → find (is_of k) new.cells ≡ find (is_of k) old.cells → new.used ≡ old.used
    → slot_at stage new k ≡ slot_at stage old k
same_slot Unknown old new k found used = refl
same_slot (Live ready) old new k found used =
    ap (λ o. slot_by o (list_any (is_same k) new.used)) found
    ∙ ap (λ ks. slot_by (find (is_of k) old.cells) (list_any (is_same k) ks)) used
same_slot Removed old new k found used = refl

-- the cell that moves is under its key, and the cells of the other keys stay
pub record MovesKey (old : Runtime) (Moves : Cell → Cell → Type 0) (new : Runtime) (id : ℕ) : Type 0 where
  pub key : Key
  pub cell : Cell
  pub was : slot_of old key ≡ There cell
  pub is : id_of cell ≡ id
  pub later : Cell
  pub there : slot_of new key ≡ There later
  pub moves : Moves cell later
  pub others : (other : Key) → other ≢ key → slot_of new other ≡ slot_of old other

key_is : (key other : Key) → key.uid ≡ other.uid → key.container ≡ other.container → key ≡ other
key_is key other uids containers = λ i. record { uid = uids i; container = containers i }

moves_near : (old : Runtime) (id : ℕ) (Moves : Cell → Cell → Type 0) (new : Runtime) → Keeps Moves
    → (m : MovesCell old id Moves new) (k : ContainerMetadata) → ¬ (k ≡ container_in m.cell)
    → slot_in (new.sandbox m.uid) k ≡ slot_in (old.sandbox m.uid) k
moves_near old id Moves new keeps m k differs =
    let made : container_in m.later ≡ container_in m.cell =
    ap (λ (making : Making). container_of making.label) (keeps m.cell m.later m.moves) in
    let was : Sandbox = old.sandbox m.uid in
    let found : find (is_of k) (m.front ++ m.later ∷ m.back) ≡ find (is_of k) was.cells
    = find_other k m.cell m.later differs (λ e. differs (e ∙ made)) m.front m.back
    ∙ ap (find (is_of k)) (sym m.stands) in
    ap (λ (s : Sandbox). slot_in s k) m.sandbox
    ∙ same_slot was.stage was (with_cells was (m.front ++ m.later ∷ m.back)) k found refl

moves_others : (old : Runtime) (id : ℕ) (Moves : Cell → Cell → Type 0) (new : Runtime) → Keeps Moves
    → (m : MovesCell old id Moves new) (other : Key) → other ≢ key_in m.uid (container_in m.cell)
    → slot_of new other ≡ slot_of old other
moves_others old id Moves new keeps m other differs = elim (uid_cases other.uid m.uid) [
  | inl same ↦
      subst (λ u. slot_in (new.sandbox u) other.container ≡ slot_in (old.sandbox u) other.container)
      (sym same)
      (moves_near old id Moves new keeps m other.container
      (λ e. differs (key_is other (key_in m.uid (container_in m.cell)) same e)))
  | inr far ↦ ap (λ (s : Sandbox). slot_in s other.container) (m.others other.uid far)
]

pub moves_key : (old : Runtime) (id : ℕ) (Moves : Cell → Cell → Type 0) (new : Runtime) → Keeps Moves
    → AreKept old → AreKept new → MovesCell old id Moves new → MovesKey old Moves new id
moves_key old id Moves new keeps kept kept' m =
    let contained : In m.later (new.sandbox m.uid).cells =
    subst (λ (s : Sandbox). In m.later s.cells) (sym m.sandbox) (in_split m.front m.later m.back) in
    let made : container_in m.later ≡ container_in m.cell =
    ap (λ (making : Making). container_of making.label) (keeps m.cell m.later m.moves) in
    record {
      key = key_in m.uid (container_in m.cell);
      cell = m.cell;
      was = stands_in (old.sandbox m.uid) (kept m.uid) m.cell
          (subst (In m.cell) (sym m.stands) (in_split m.front m.cell m.back));
      is = m.is;
      later = m.later;
      there = subst (λ k. slot_in (new.sandbox m.uid) k ≡ There m.later) made
          (stands_in (new.sandbox m.uid) (kept' m.uid) m.later contained);
      moves = m.moves;
      others = moves_others old id Moves new keeps m;
    }

-- a step of a cell by its id is a step of the cell under its key
pub step_key : (old : Runtime) (id : ℕ) (did : Did) (new : Runtime) → AreKept old
    → MayStep old id (Some did) new → MovesKey old (λ cell later. Steps cell did later) new id
step_key old id did new kept moves =
    let goes : StepGoes old (Stepped id (Some did)) new =
    step_goes old (Stepped id (Some did)) new kept moves in
    moves_key old id (λ cell later. Steps cell did later) new (λ c d s. making_stays c did d s) kept
    (λ uid. (goes.sandbox uid).kept) moves

pub step_reaches : (old : Runtime) (did : Did) (new : Runtime) → Lasts old → (key : Key) (cell : Cell)
    → slot_of old key ≡ There cell → MayStep old (id_of cell) (Some did) new
    → (later : Cell) × (slot_of new key ≡ There later) × Steps cell did later
step_reaches old did new lasts key cell there moves =
    let m : MovesKey old (λ cell later. Steps cell did later) new (id_of cell) =
    step_key old (id_of cell) did new lasts.kept moves in
    let same : m.key ≡ key = lasts.ids.apart m.key key m.cell cell m.was there m.is in
    let both : There m.cell ≡ There cell = sym (subst (λ k. slot_of old k ≡ There m.cell) same m.was)
    ∙ there in
    let one : m.cell ≡ cell = cc in (
      m.later,
      subst (λ k. slot_of new k ≡ There m.later) same m.there,
      subst (λ c. Steps c did m.later) one m.moves,
    )
