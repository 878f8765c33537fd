-- The possible changes of a slot, and of a sandbox, by each kind of change.
use Rattle.std.proofs.Common.{◌≡◌, inl, inr, ℕ, Bool, true, false, cond, List, [], ◌∷◌, ◌++◌, map, Option}
use Rattle.std.proofs.Common.{Some, None, refl, sym, ap, subst, ◌∙◌}
use Rattle.std.specs.Prelude.{⊤}
use Rattle.std.specs.Option.{option_or}
use Rattle.std.specs.List.{find, list_any}
use Rattle.std.specs.BTreeSet.{insert_key}
use Rattle.std.proofs.lemmas.List.Folds.{find-append}
use Rattle.cri_msgs.specs.Order.{container_cmp}
use Rattle.cri_msgs.specs.declared.keys.ContainerMetadata.{ContainerMetadata}
use Rattle.runtime_cell.specs.declared.cell.Did.{Did}
use Rattle.runtime_cell.specs.declared.cell.State.{State}
use Rattle.runtime_cell.specs.declared.cell.State.TheVariants.{Created, Running, Exited}
use Rattle.runtime_cell.specs.Cell.{Cell, Steps, StepsIn, after, killed, started}
use Rattle.runtime_cell.specs.Outcome.{Next}
use Rattle.runtime_cell.specs.Outcome.Next.{Goes, Stops, Over}
use Rattle.registry.specs.declared.stage.Stage.{Stage}
use Rattle.registry.specs.declared.stage.Stage.TheVariants.{Unknown, Live, Removed}
use Rattle.registry.specs.Runtime.{AreDistinct, In, Sandbox, Slot, container_in, drop_first, id_of, is_of}
use Rattle.registry.specs.Runtime.{is_same, slot_at, slot_by, slot_in}
use Rattle.registry.specs.Runtime.Slot.{Free, There, Gone}
use Rattle.runtime_laws.specs.Runs.{Event}
use Rattle.runtime_laws.specs.Runs.Event.{Stepped}
use Rattle.runtime_laws.proofs.Lists.{AreMoved, IsLeft, Keeps, MovesFound, drop_distinct, drop_less}
use Rattle.runtime_laws.proofs.Lists.{find_dropped, find_moved, found_there, in_more, in_map, is_same_as}
use Rattle.runtime_laws.proofs.Lists.{more_distinct, moved_containers, moved_nil, same_is, used_now}
use Rattle.runtime_laws.proofs.Lists.{used_still}

-- what an event does to a cell that stays
pub data CellGoes (event : Event) (old new : Cell) : Type 0 where
  stays : new ≡ old → CellGoes event old new
  starts : new ≡ started old → CellGoes event old new
  ends : (code : ℕ) → new ≡ killed code old → CellGoes event old new
  steps : (did : Did) → event ≡ Stepped (id_of old) (Some did) → Steps old did new → CellGoes event old new

after_making : (c : Cell) (next : Next) → (after c next).making ≡ c.making
after_making c (Goes entry more) = refl
after_making c (Stops entry code) = refl
after_making c (Over code) = refl

steps_making : (state : State) (old : Cell) (did : Did) (new : Cell) → StepsIn state old did new
    → new.making ≡ old.making
steps_making Running old did new row = ap (λ (c : Cell). c.making) row.3 ∙ after_making old row.0
steps_making Created old did new row = ap (λ (c : Cell). c.making) row.1
steps_making (Exited code by) old did new row = ap (λ (c : Cell). c.making) row.1

pub making_stays : (old : Cell) (did : Did) (new : Cell) → Steps old did new → new.making ≡ old.making
making_stays old did new s = steps_making old.state old did new s

pub keeps_making : (event : Event) → Keeps (CellGoes event)
keeps_making event old new (stays e) = ap (λ (c : Cell). c.making) e
keeps_making event old new (starts e) = ap (λ (c : Cell). c.making) e
keeps_making event old new (ends code e) = ap (λ (c : Cell). c.making) e
keeps_making event old new (steps did e s) = making_stays old did new s

-- a slot is free until its cell is made, and never after; once the cell is gone, none comes
abbrev pub SlotGoes : (Cell → Type 0) → (Cell → Cell → Type 0) → Slot → Slot → Type 0
SlotGoes Made Moves Free Free = ⊤
SlotGoes Made Moves Free (There c) = Made c
SlotGoes Made Moves Free Gone = ⊤
SlotGoes Made Moves (There c) Free = ⊥
SlotGoes Made Moves (There c) (There d) = Moves c d
SlotGoes Made Moves (There c) Gone = ⊤
SlotGoes Made Moves Gone Free = ⊥
SlotGoes Made Moves Gone (There c) = ⊥
SlotGoes Made Moves Gone Gone = ⊤

pub slot_stays : (Made : Cell → Type 0) (Moves : Cell → Cell → Type 0) → ((c : Cell) → Moves c c)
    → (slot : Slot) → SlotGoes Made Moves slot slot
slot_stays Made Moves still Free = tt
slot_stays Made Moves still (There c) = still c
slot_stays Made Moves still Gone = tt

pub to_gone : (Made : Cell → Type 0) (Moves : Cell → Cell → Type 0) (slot : Slot)
    → SlotGoes Made Moves slot Gone
to_gone Made Moves Free = tt
to_gone Made Moves (There c) = tt
to_gone Made Moves Gone = tt

slot_moved : (Made : Cell → Type 0) (Moves : Cell → Cell → Type 0) (o p : Option Cell) (used : Bool)
    → MovesFound Moves o p → SlotGoes Made Moves (slot_by o used) (slot_by p used)
slot_moved Made Moves None None true moved = tt
slot_moved Made Moves None None false moved = tt
slot_moved Made Moves None (Some d) used moved = absurd moved
slot_moved Made Moves (Some c) None used moved = absurd moved
slot_moved Made Moves (Some c) (Some d) used moved = moved

slot_left : (Made : Cell → Type 0) (Moves : Cell → Cell → Type 0) → ((c : Cell) → Moves c c)
    → (o p : Option Cell) (used : Bool) → ((c : Cell) → o ≡ Some c → used ≡ true) → IsLeft o p
    → SlotGoes Made Moves (slot_by o used) (slot_by p used)
slot_left Made Moves still o p used known (inl same) =
    subst (λ q. SlotGoes Made Moves (slot_by o used) (slot_by q used)) (sym same)
    (slot_stays Made Moves still (slot_by o used))
slot_left Made Moves still o p used known (inr (none, was)) =
    subst (λ q. SlotGoes Made Moves (slot_by o used) (slot_by q used)) (sym none)
    (subst (λ b. SlotGoes Made Moves (slot_by o used) (slot_by None b)) (sym (known was.0 was.1))
    (to_gone Made Moves (slot_by o used)))

-- what a sandbox keeps: its containers are distinct, each was used, and it has none if it isn't there
abbrev pub IsDead : Stage → Type 0
IsDead Unknown = ⊤
IsDead (Live ready) = ⊥
IsDead Removed = ⊤

pub record IsKept (s : Sandbox) : Type 0 where
  pub distinct : AreDistinct (map container_in s.cells)
  pub used : (k : ContainerMetadata) → In k (map container_in s.cells) → list_any (is_same k) s.used ≡ true
  pub dead : IsDead s.stage → s.cells ≡ []

pub record SandboxGoes (Made : ContainerMetadata → Cell → Type 0) (Moves : Cell → Cell → Type 0)
    (old new : Sandbox) : Type 0 where
  pub kept : IsKept new
  pub slots : (k : ContainerMetadata) → SlotGoes (Made k) Moves (slot_in old k) (slot_in new k)
  pub removed : old.stage ≡ Removed → new.stage ≡ Removed

abbrev pub box : Stage → List Cell → List ContainerMetadata → Sandbox
box stage cells used = record { stage = stage; cells = cells; used = used }

pub empty_kept : (stage : Stage) → IsKept (box stage [] [])
empty_kept stage = record { distinct = tt; used = λ k i. absurd i; dead = λ d. refl }

pub sandbox_stays : (Made : ContainerMetadata → Cell → Type 0) (Moves : Cell → Cell → Type 0)
    → ((c : Cell) → Moves c c) → (s : Sandbox) → IsKept s → SandboxGoes Made Moves s s
sandbox_stays Made Moves still s kept =
    record { kept = kept; slots = λ k. slot_stays (Made k) Moves still (slot_in s k); removed = λ e. e }

-- the slots change so if they do while the sandbox is there
slots_at : (Made : Cell → Type 0) (Moves : Cell → Cell → Type 0) (stage : Stage) (old new : Sandbox)
    (k : ContainerMetadata)
    → SlotGoes Made Moves (slot_by (find (is_of k) old.cells) (list_any (is_same k) old.used))
    (slot_by (find (is_of k) new.cells) (list_any (is_same k) new.used))
    → SlotGoes Made Moves (slot_at stage old k) (slot_at stage new k)
slots_at Made Moves Unknown old new k goes = tt
slots_at Made Moves (Live ready) old new k goes = goes
slots_at Made Moves Removed old new k goes = tt

moved_kept : (Moves : Cell → Cell → Type 0) → Keeps Moves
    → (stage stage' : Stage) (cells cells' : List Cell) (used : List ContainerMetadata)
    → (IsDead stage' → IsDead stage) → IsKept (box stage cells used) → AreMoved Moves cells cells'
    → IsKept (box stage' cells' used)
moved_kept Moves keeps stage stage' cells cells' used dies kept moved =
    let same = moved_containers Moves keeps cells cells' moved in
    record {
      distinct = subst AreDistinct (sym same) kept.distinct;
      used = λ k i. kept.used k (subst (In k) same i);
      dead = λ d. moved_nil Moves cells cells' moved (kept.dead (dies d));
    }

-- cells of a sandbox become others, each with its making
pub sandbox_moves : (Made : ContainerMetadata → Cell → Type 0) (Moves : Cell → Cell → Type 0) → Keeps Moves
    → (stage : Stage) (cells cells' : List Cell) (used : List ContainerMetadata)
    → IsKept (box stage cells used) → AreMoved Moves cells cells'
    → SandboxGoes Made Moves (box stage cells used) (box stage cells' used)
sandbox_moves Made Moves keeps stage cells cells' used kept moved = record {
  kept = moved_kept Moves keeps stage stage cells cells' used (λ d. d) kept moved;
  slots = λ k. slots_at (Made k) Moves stage (box stage cells used) (box stage cells' used) k
      (slot_moved (Made k) Moves (find (is_of k) cells) (find (is_of k) cells') (list_any (is_same k) used)
      (find_moved Moves keeps k cells cells' moved));
  removed = λ e. e;
}

-- the same when it stops
pub sandbox_stops : (Made : ContainerMetadata → Cell → Type 0) (Moves : Cell → Cell → Type 0) → Keeps Moves
    → (stage : Stage) (ready : Bool) → stage ≡ Live ready
    → (cells cells' : List Cell) (used : List ContainerMetadata) → IsKept (box stage cells used)
    → AreMoved Moves cells cells'
    → SandboxGoes Made Moves (box stage cells used) (box (Live false) cells' used)
sandbox_stops Made Moves keeps stage ready live cells cells' used kept moved = record {
  kept = moved_kept Moves keeps stage (Live false) cells cells' used (λ d. absurd d) kept moved;
  slots = λ k. subst (λ st. SlotGoes (Made k) Moves (slot_at st (box stage cells used) k)
      (slot_at (Live false) (box (Live false) cells' used) k)) (sym live)
      (slot_moved (Made k) Moves (find (is_of k) cells) (find (is_of k) cells') (list_any (is_same k) used)
      (find_moved Moves keeps k cells cells' moved));
  removed = λ e. let never : Live ready ≡ Removed = sym live ∙ e in absurd cc;
}

-- it is removed
pub sandbox_goes : (Made : ContainerMetadata → Cell → Type 0) (Moves : Cell → Cell → Type 0) (old : Sandbox)
    → SandboxGoes Made Moves old (box Removed [] [])
sandbox_goes Made Moves old = record {
  kept = empty_kept Removed;
  slots = λ k.
      to_gone (Made k) Moves (slot_in old k);
  removed = λ e. refl;
}

-- it is made
pub sandbox_comes : (Made : ContainerMetadata → Cell → Type 0) (Moves : Cell → Cell → Type 0) (ready : Bool)
    (old : Sandbox) → old.stage ≡ Unknown → SandboxGoes Made Moves old (box (Live ready) [] [])
sandbox_comes Made Moves ready old is = record {
  kept = empty_kept (Live ready);
  slots = λ k. subst (λ st. SlotGoes (Made k) Moves (slot_at st old k) Free) (sym is) tt;
  removed = λ e. let never : Unknown ≡ Removed = sym is ∙ e in absurd cc;
}

used_where : (s : Sandbox) → IsKept s → (k : ContainerMetadata) (c : Cell) → find (is_of k) s.cells ≡ Some c
    → list_any (is_same k) s.used ≡ true
used_where s kept k c found =
    let there = found_there k s.cells c found in
    kept.used k (subst (λ m. In m (map container_in s.cells)) there.1 (in_map container_in c s.cells there.0))

-- one cell is removed
pub sandbox_drops : (Made : ContainerMetadata → Cell → Type 0) (Moves : Cell → Cell → Type 0)
    → ((c : Cell) → Moves c c) → (test : Cell → Bool) (stage : Stage) (cells : List Cell)
    (used : List ContainerMetadata)
    → IsKept (box stage cells used) → SandboxGoes Made Moves (box stage cells used)
    (box stage (drop_first test cells) used)
sandbox_drops Made Moves still test stage cells used kept = record {
  kept = record {
    distinct = drop_distinct test cells kept.distinct;
    used = λ k i. kept.used k (drop_less test k cells i);
    dead = λ d. ap (drop_first test) (kept.dead d);
  };
  slots = λ k. slots_at (Made k) Moves stage (box stage cells used) (box stage (drop_first test cells) used) k
      (slot_left (Made k) Moves still (find (is_of k) cells) (find (is_of k) (drop_first test cells))
      (list_any (is_same k) used) (used_where (box stage cells used) kept k)
      (find_dropped test k cells kept.distinct));
  removed = λ e. e;
}

-- one more cell, whose container was never used
slot_more : (Made : Cell → Type 0) (Moves : Cell → Cell → Type 0) → ((c : Cell) → Moves c c)
    → (o : Option Cell) (x : Cell) (test used used' : Bool) → (test ≡ true → (used ≡ false) × Made x)
    → (used ≡ true → used' ≡ true) → SlotGoes Made Moves (slot_by o used)
    (slot_by (option_or o (cond test (Some x) None)) used')
slot_more Made Moves still (Some c) x test used used' fits grows = still c
slot_more Made Moves still None x true used used' fits grows =
    subst (λ b. SlotGoes Made Moves (slot_by None b) (There x)) (sym (fits refl).0) (fits refl).1
slot_more Made Moves still None x false true used' fits grows =
    subst (λ b. SlotGoes Made Moves Gone (slot_by None b)) (sym (grows refl)) tt
slot_more Made Moves still None x false false true fits grows = tt
slot_more Made Moves still None x false false false fits grows = tt

none_found : (o : Option Cell) (used : Bool) → slot_by o used ≡ Free → (o ≡ None) × (used ≡ false)
none_found (Some c) used e = absurd cc
none_found None true e = absurd cc
none_found None false e = (refl, refl)

none_by : (k : ContainerMetadata) (x : Cell) (xs : List Cell) (test : Bool) → is_of k x ≡ test
    → (find (is_of k) xs ≡ None → ¬ In k (map container_in xs))
    → cond test (Some x) (find (is_of k) xs) ≡ None → ¬ In k (map container_in (x ∷ xs))
none_by k x xs true passes rest none i = absurd cc
none_by k x xs false passes rest none (inl e) = let never : true ≡ false =
    sym (is_same_as k (container_in x) e) ∙ passes in absurd cc
none_by k x xs false passes rest none (inr i) = rest none i

none_in : (k : ContainerMetadata) (cells : List Cell) → find (is_of k) cells ≡ None
    → ¬ In k (map container_in cells)
none_in k [] none i = i
none_in k (x ∷ xs) none i = none_by k x xs (is_of k x) refl (none_in k xs) none i

grown_kept : (ready : Bool) (cells : List Cell) (used : List ContainerMetadata) (c : Cell)
    → ¬ In (container_in c) (map container_in cells) → IsKept (box (Live ready) cells used)
    → IsKept (box (Live ready) (cells ++ c ∷ []) (insert_key container_cmp used (container_in c)))
grown_kept ready cells used c out kept = record {
  distinct = more_distinct cells c kept.distinct out;
  used = λ k i. elim (in_more k cells c i) [
    | inl there ↦ used_still k (container_in c) used (kept.used k there)
    | inr e ↦ subst (λ m. list_any (is_same m) (insert_key container_cmp used (container_in c)) ≡ true)
        (sym e) (used_now (container_in c) used)
  ];
  dead = λ d. absurd d;
}

sandbox_grows : (Made : ContainerMetadata → Cell → Type 0) (Moves : Cell → Cell → Type 0)
    → ((c : Cell) → Moves c c) → (ready : Bool) (cells : List Cell) (used : List ContainerMetadata) (c : Cell)
    → slot_in (box (Live ready) cells used) (container_in c) ≡ Free → Made (container_in c) c
    → IsKept (box (Live ready) cells used)
    → SandboxGoes Made Moves (box (Live ready) cells used)
    (box (Live ready) (cells ++ c ∷ []) (insert_key container_cmp used (container_in c)))
sandbox_grows Made Moves still ready cells used c free made kept =
    let none = none_found (find (is_of (container_in c)) cells) (list_any (is_same (container_in c)) used)
    free in
    let more = insert_key container_cmp used (container_in c) in
    record {
      kept = grown_kept ready cells used c (none_in (container_in c) cells none.0) kept;
      slots = λ k. subst (λ o. SlotGoes (Made k) Moves
          (slot_by (find (is_of k) cells) (list_any (is_same k) used))
          (slot_by o (list_any (is_same k) more))) (sym (find-append (is_of k) cells (c ∷ [])))
          (slot_more (Made k) Moves still (find (is_of k) cells) c (is_of k c) (list_any (is_same k) used)
          (list_any (is_same k) more)
          (λ passes. (
            subst (λ m. list_any (is_same m) used ≡ false) (sym (same_is k (container_in c) passes)) none.1,
            subst (λ m. Made m c) (sym (same_is k (container_in c) passes)) made,
          ))
          (used_still k (container_in c) used));
      removed = λ e. absurd cc;
    }

pub grows_at : (Made : ContainerMetadata → Cell → Type 0) (Moves : Cell → Cell → Type 0)
    → ((c : Cell) → Moves c c) → (stage : Stage) (ready : Bool) → stage ≡ Live ready
    → (cells : List Cell) (used : List ContainerMetadata) (c : Cell)
    → slot_in (box stage cells used) (container_in c) ≡ Free → Made (container_in c) c
    → IsKept (box stage cells used)
    → SandboxGoes Made Moves (box stage cells used)
    (box stage (cells ++ c ∷ []) (insert_key container_cmp used (container_in c)))
grows_at Made Moves still stage ready live cells used c free made kept =
    subst (λ st. SandboxGoes Made Moves (box st cells used)
    (box st (cells ++ c ∷ []) (insert_key container_cmp used (container_in c)))) (sym live)
    (sandbox_grows Made Moves still ready cells used c
    (subst (λ st. slot_in (box st cells used) (container_in c) ≡ Free) live free) made
    (subst (λ st. IsKept (box st cells used)) live kept))
