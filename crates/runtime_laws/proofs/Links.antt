-- The laws of a link and those before it.
use Rattle.std.proofs.Common.{◌≡◌, inl, inr, ℕ, List, [], ◌∷◌, Option, Some, refl, sym, ap, subst, ◌∙◌}
use Rattle.bpf_code.specs.declared.insn.Insn.{Insn}
use Rattle.call_data.specs.declared.sys_call.SysCall.{SysCall}
use Rattle.cri_msgs.specs.declared.calls.Call.TheVariants.{RemovePodSandbox}
use Rattle.cri_msgs.specs.declared.keys.Key.{Key}
use Rattle.cri_msgs.specs.declared.refusals.Refusal.TheVariants.{Memory, ResourceExhausted}
use Rattle.cri_msgs.specs.declared.replies.Answer.TheVariants.{Refused, Done}
use Rattle.runtime_cell.specs.declared.cell.Did.{Did}
use Rattle.runtime_cell.specs.declared.cell.State.TheVariants.{Created, Running}
use Rattle.runtime_cell.specs.Cell.{Cell, Steps}
use Rattle.runtime_cell.specs.Laws.{IsLater}
use Rattle.registry.specs.declared.stage.Stage.{Stage}
use Rattle.registry.specs.declared.stage.Stage.TheVariants.{Unknown, Live, Removed}
use Rattle.runtime_laws.specs.Laws.{Answered, IsThere, LinkLaws, Makes, Seen, Starts, StepsOne, TookUpAt}
use Rattle.registry.specs.Runtime.{In, Runtime, Slot, slot_at, slot_of}
use Rattle.registry.specs.Runtime.Slot.{Free, There, Gone}
use Rattle.registry.specs.Serves.{Enters, Part, RemovesPod, Serves, part_of}
use Rattle.runtime_laws.specs.Runs.{Happens, IsRun, Link, now}
use Rattle.runtime_laws.specs.Runs.Event.{Stepped}
use Rattle.runtime_laws.proofs.Slots.{CellGoes, SlotGoes}
use Rattle.runtime_laws.proofs.Goes.{IsMadeIn, MovesKey, came_from, key_goes, step_key}
use Rattle.runtime_laws.proofs.Seen.{Grows, IsAfter, LinkHolds, first_holds, seen_now}
use Rattle.runtime_laws.proofs.Reported.{status_true, told_true}

-- the content of the slot before a link, after a cell was seen there
seen_before : Grows → (baseline : Option (List Insn)) (l : Link) (before : List Link)
    → IsRun baseline (l ∷ before) → (key : Key) (cell : Cell) (slot : Slot) → slot_of l.old key ≡ slot
    → Seen before key cell → IsAfter cell slot
seen_before grows baseline l before run key cell slot is seen =
    subst (IsAfter cell) (ap (λ r. slot_of r key) (sym run.0) ∙ is)
    (seen_now grows baseline key cell before run.2 seen)

there_is : (slot : Slot) → IsThere slot → (cell : Cell) × (slot ≡ There cell)
there_is Free there = absurd there
there_is (There cell) there = (cell, refl)
there_is Gone there = absurd there

made_once : Grows → (baseline : Option (List Insn)) (l : Link) (before : List Link)
    → IsRun baseline (l ∷ before) → (key : Key) → Makes l key → (b : Link) → In b before → ¬ Makes b key
made_once grows baseline l before run key makes b i made =
    let holds : LinkHolds baseline l = first_holds baseline l before run in
    let now_there = there_is (slot_of l.new key) makes.1 in
    let then_there = there_is (slot_of b.new key) made.1 in
    elim (came_from l.old l.event l.new key now_there.0 (key_goes l.old l.event l.new holds.goes key)
    now_there.1) [
      | inl (cell, was, goes) ↦ makes.0 (subst IsThere (sym was) tt)
      | inr (is_made, free) ↦ seen_before grows baseline l before run key then_there.0 Free free
          (b, i, then_there.1)
    ]

started_once : Grows → (baseline : Option (List Insn)) (l : Link) (before : List Link)
    → IsRun baseline (l ∷ before) → (key : Key) → Starts l key → (b : Link) → In b before → ¬ Starts b key
started_once grows baseline l before run key starts b i started =
    let later : IsLater started.is starts.was =
    seen_before grows baseline l before run key started.is (There starts.was) starts.old
    (b, i, started.new) in
    let same : starts.was ≡ started.is = later.start starts.created in
    let never : Created ≡ Running = sym starts.created ∙ ap (λ (c : Cell). c.state) same ∙ started.running in
    cc

only_grows : Grows → (baseline : Option (List Insn)) (l : Link) (before : List Link)
    → IsRun baseline (l ∷ before) → (key : Key) (cell later : Cell) → Seen before key cell
    → slot_of l.new key ≡ There later
    → IsLater cell later
only_grows grows baseline l before run key cell later (b, i, seen) there =
    subst (IsAfter cell) there (seen_now grows baseline key cell (l ∷ before) run (b, inr i, seen))

stays_gone : (Made : Cell → Type 0) (Moves : Cell → Cell → Type 0) (slot : Slot)
    → SlotGoes Made Moves Gone slot → slot ≡ Gone
stays_gone Made Moves Free goes = absurd goes
stays_gone Made Moves (There cell) goes = absurd goes
stays_gone Made Moves Gone goes = refl

gone_stays : (baseline : Option (List Insn)) (l : Link) (before : List Link) → IsRun baseline (l ∷ before)
    → (key : Key) → slot_of l.old key ≡ Gone → slot_of l.new key ≡ Gone
gone_stays baseline l before run key gone =
    let Made : Cell → Type 0 = IsMadeIn l.old l.event l.new key in
    let goes = key_goes l.old l.event l.new (first_holds baseline l before run).goes key in
    stays_gone Made (CellGoes l.event) (slot_of l.new key)
    (subst (λ slot. SlotGoes Made (CellGoes l.event) slot (slot_of l.new key)) gone goes)

steps_one : (baseline : Option (List Insn)) (l : Link) (before : List Link) → IsRun baseline (l ∷ before)
    → (id : ℕ) (did : Did) → l.event ≡ Stepped id (Some did) → StepsOne l id did
steps_one baseline l before run id did event =
    let holds : LinkHolds baseline l = first_holds baseline l before run in
    let happens : Happens l.old (Stepped id (Some did)) l.new =
    subst (λ e. Happens l.old e l.new) event holds.happens in
    let m : MovesKey l.old (λ cell later. Steps cell did later) l.new id =
    step_key l.old id did l.new holds.lasts.kept happens in
    record {
      key = m.key;
      cell = m.cell;
      old = m.was;
      is = m.is;
      later = m.later;
      new = m.there;
      steps =
          m.moves;
      others = m.others;
    }

-- a removal that was answered so leaves the sandbox removed
entered_removed : (full : Type 0) (old new : Part)
    → Enters full old (record { stage = Removed; cells = []; used = [] }) Done new
    → new.sandbox.stage ≡ Removed
entered_removed full old new (inl row) = let never : Done ≡ Refused ResourceExhausted = row.1.0 in absurd cc
entered_removed full old new (inr (room, inl row)) = let never : Done ≡ Refused Memory = row.0 in absurd cc
entered_removed full old new (inr (room, inr row)) = ap (λ (p : Part). p.sandbox.stage) row.1

removal_removes : (full : Type 0) (old new : Part) (stage : Stage) → old.sandbox.stage ≡ stage
    → RemovesPod stage full old Done new → new.sandbox.stage ≡ Removed
removal_removes full old new Unknown is row = entered_removed full old new row
removal_removes full old new (Live ready) is row = ap (λ (p : Part). p.sandbox.stage) row.1
removal_removes full old new Removed is row = ap (λ (p : Part). p.sandbox.stage) row.1 ∙ is

removed_now : (baseline : Option (List Insn)) (uid : List ℕ) (ls : List Link) → IsRun baseline ls
    → Answered ls (RemovePodSandbox uid) Done → ((now baseline ls).sandbox uid).stage ≡ Removed
removed_now baseline uid [] run (l, i, answered) = absurd i
removed_now baseline uid (m ∷ ls) run (l, inl e, (files, is)) =
    let serves : Serves m.old (RemovePodSandbox uid) files Done m.new =
    subst (λ event. Happens m.old event m.new) (ap (λ (n : Link). n.event) (sym e) ∙ is) run.1 in
    removal_removes _ (part_of m.old uid) (part_of m.new uid) (m.old.sandbox uid).stage refl serves.row
removed_now baseline uid (m ∷ ls) run (l, inr i, answered) =
    let holds : LinkHolds baseline m = first_holds baseline m ls run in
    (holds.goes.sandbox uid).removed (ap (λ (r : Runtime). (r.sandbox uid).stage) run.0
    ∙ removed_now baseline uid ls run.2 (l, i, answered))

slot_gone : (r : Runtime) (uid : List ℕ) → (r.sandbox uid).stage ≡ Removed → (key : Key) → key.uid ≡ uid
    → slot_of r key ≡ Gone
slot_gone r uid removed key of = ap (λ st. slot_at st (r.sandbox key.uid) key.container)
    (ap (λ (u : List ℕ). (r.sandbox u).stage) of ∙ removed)

silent : (baseline : Option (List Insn)) (l : Link) (before : List Link) → IsRun baseline (l ∷ before)
    → (uid : List ℕ) → Answered before (RemovePodSandbox uid) Done → (key : Key) → key.uid ≡ uid
    → (place : ℕ) (call : SysCall) → ¬ TookUpAt l key place call
silent baseline l before run uid answered key of place call took =
    let never : Gone ≡ There took.cell
    = sym (slot_gone l.old uid (ap (λ (r : Runtime). (r.sandbox uid).stage) run.0
    ∙ removed_now baseline uid before run.2 answered) key of) ∙ took.there in
    cc

removed_stays : (baseline : Option (List Insn)) (l : Link) (before : List Link) → IsRun baseline (l ∷ before)
    → (uid : List ℕ) → Answered before (RemovePodSandbox uid) Done → (key : Key) → key.uid ≡ uid
    → slot_of l.new key ≡ Gone
removed_stays baseline l before run uid (m, i, answered) key of =
    slot_gone l.new uid (removed_now baseline uid (l ∷ before) run (m, inr i, answered)) key of

pub link_laws : Grows → (baseline : Option (List Insn)) (l : Link) (before : List Link)
    → IsRun baseline (l ∷ before) → LinkLaws l before
link_laws grows baseline l before run = record {
  made_once = made_once grows baseline l before run;
  started_once = started_once grows baseline l before run;
  only_grows = only_grows grows baseline l before run;
  gone_stays = gone_stays baseline l before run;
  steps_one = steps_one baseline l before run;
  removed_is_silent = silent baseline l before run;
  removed_stays = removed_stays baseline l before run;
  status_is_true = λ call files answer key status event tells.
      status_true l.old call files answer l.new key status (first_holds baseline l before run).lasts.kept
      (subst (λ e. Happens l.old e l.new) event run.1) tells;
  told_is_true = λ call files answer key code event tells.
      told_true l.old call files answer l.new key code (first_holds baseline l before run).lasts.kept
      (subst (λ e. Happens l.old e l.new) event run.1) tells;
}
