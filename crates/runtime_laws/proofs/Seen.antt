-- The cells that were seen in a run: their origin, and that of two one is the later one.
use Rattle.std.proofs.Common.{◌+◌, ◌≤◌, arith, ◌≡◌, inl, inr, ℕ, List, [], ◌∷◌, Option, refl, sym, ap, subst}
use Rattle.std.proofs.Common.{◌∙◌}
use Rattle.std.specs.Prelude.{◌⊎◌, ⊤}
use Rattle.bpf_code.specs.declared.insn.Insn.{Insn}
use Rattle.cri_msgs.specs.declared.keys.Key.{Key}
use Rattle.runtime_cell.specs.declared.cell.Did.{Did}
use Rattle.runtime_cell.specs.Cell.{Cell, Steps, killed, started}
use Rattle.runtime_cell.specs.Laws.{IsLater}
use Rattle.runtime_laws.specs.Laws.{Seen}
use Rattle.registry.specs.Runtime.{In, Runtime, Slot, id_of, slot_of}
use Rattle.registry.specs.Runtime.Slot.{Free, There, Gone}
use Rattle.runtime_laws.specs.Runs.{Event, Happens, IsRun, Link, now}
use Rattle.runtime_laws.proofs.Slots.{CellGoes, SlotGoes}
use Rattle.runtime_laws.proofs.Slots.CellGoes.{stays, starts, ends, steps}
use Rattle.runtime_laws.proofs.Goes.{IsMadeIn, Lasts, StepGoes, came_from, empty_lasts, key_goes, lasts_on}
use Rattle.runtime_laws.proofs.Goes.{made_id, same_id, step_goes}

-- what is true of each link of a run
pub record LinkHolds (baseline : Option (List Insn)) (l : Link) : Type 0 where
  pub lasts : Lasts l.old
  pub base : l.old.baseline ≡ baseline
  pub happens : Happens l.old l.event l.new
  pub goes : StepGoes l.old l.event l.new

link_holds : (baseline : Option (List Insn)) (l : Link) (before : Runtime) → l.old ≡ before → Lasts before
    → before.baseline ≡ baseline → Happens l.old l.event l.new → LinkHolds baseline l
link_holds baseline l before was lasts base happens =
    let old : Lasts l.old = subst Lasts (sym was) lasts in
    record {
      lasts = old;
      base = ap (λ (r : Runtime). r.baseline) was ∙ base;
      happens = happens;
      goes =
          step_goes l.old l.event l.new old.kept happens;
    }

pub now_holds : (baseline : Option (List Insn)) (ls : List Link) → IsRun baseline ls → Lasts (now baseline ls)
    × ((now baseline ls).baseline ≡ baseline)
now_holds baseline [] run = (empty_lasts baseline, refl)
now_holds baseline (l ∷ ls) run =
    let before = now_holds baseline ls run.2 in
    let holds : LinkHolds baseline l = link_holds baseline l (now baseline ls) run.0 before.0 before.1 run.1
    in
    (lasts_on l.old l.event l.new holds.goes holds.lasts, holds.goes.baseline ∙ holds.base)

pub first_holds : (baseline : Option (List Insn)) (l : Link) (ls : List Link) → IsRun baseline (l ∷ ls)
    → LinkHolds baseline l
first_holds baseline l ls run =
    let before = now_holds baseline ls run.2 in
    link_holds baseline l (now baseline ls) run.0 before.0 before.1 run.1

pub each_holds : (baseline : Option (List Insn)) (ls : List Link) → IsRun baseline ls → (l : Link) → In l ls
    → LinkHolds baseline l
each_holds baseline [] run l i = absurd i
each_holds baseline (m ∷ ls) run l (inl e) =
    subst (LinkHolds baseline) (sym e) (first_holds baseline m ls run)
each_holds baseline (m ∷ ls) run l (inr i) = each_holds baseline ls run.2 l i

-- a cell that is there now was seen
pub there_seen : (baseline : Option (List Insn)) (ls : List Link) (key : Key) (cell : Cell)
    → slot_of (now baseline ls) key ≡ There cell → Seen ls key cell
there_seen baseline [] key cell e = absurd cc
there_seen baseline (l ∷ ls) key cell e = (l, inl refl, e)

more_seen : (l : Link) (ls : List Link) (key : Key) (cell : Cell) → Seen ls key cell → Seen (l ∷ ls) key cell
more_seen l ls key cell (m, i, is) = (m, inr i, is)

-- and so was one that was there before a link
pub old_seen : (baseline : Option (List Insn)) (ls : List Link) → IsRun baseline ls
    → (key : Key) (cell : Cell) (l : Link) → In l ls → slot_of l.old key ≡ There cell → Seen ls key cell
old_seen baseline [] run key cell l i is = absurd i
old_seen baseline (m ∷ ls) run key cell l (inl e) is =
    more_seen m ls key cell (there_seen baseline ls key cell
    (subst (λ r. slot_of r key ≡ There cell) (ap (λ (n : Link). n.old) e ∙ run.0) is))
old_seen baseline (m ∷ ls) run key cell l (inr i) is =
    more_seen m ls key cell (old_seen baseline ls run.2 key cell l i is)

-- the origin of a seen cell: a property of each made cell that is kept is true of it
pub seen_by : (baseline : Option (List Insn)) (P : Cell → Type 0) (key : Key) (ls : List Link)
    → IsRun baseline ls
    → ((l : Link) → In l ls → (cell : Cell) → slot_of l.old key ≡ Free → IsMadeIn l.old l.event l.new key cell
    → P cell)
    → ((l : Link) → In l ls → (before cell : Cell) → slot_of l.old key ≡ There before
    → CellGoes l.event before cell → P before → P cell)
    → (cell : Cell) → Seen ls key cell → P cell
seen_by baseline P key [] run made moved cell (l, i, is) = absurd i
seen_by baseline P key (m ∷ ls) run made moved cell (l, inr i, is) =
    seen_by baseline P key ls run.2 (λ l i. made l (inr i)) (λ l i. moved l (inr i)) cell (l, i, is)
seen_by baseline P key (m ∷ ls) run made moved cell (l, inl e, is) =
    let holds : LinkHolds baseline m = first_holds baseline m ls run in
    elim (came_from m.old m.event m.new key cell (key_goes m.old m.event m.new holds.goes key)
    (subst (λ (n : Link). slot_of n.new key ≡ There cell) e is)) [
      | inl (before, was, goes) ↦
          let seen : Seen ls key before = there_seen baseline ls key before
          (subst (λ r. slot_of r key ≡ There before) run.0 was) in
          moved m (inl refl) before cell was goes
          (seen_by baseline P key ls run.2 (λ l i. made l (inr i)) (λ l i. moved l (inr i)) before seen)
      | inr (is_made, was) ↦ made m (inl refl) cell was is_made
    ]

-- the laws of one cell: each change makes it a later one
pub record Grows : Type 0 where
  pub same : (c : Cell) → IsLater c c
  pub later : (first then last : Cell) → IsLater first then → IsLater then last → IsLater first last
  pub started : (c : Cell) → IsLater c (started c)
  pub stepped : (old : Cell) (did : Did) (new : Cell) → Steps old did new → IsLater old new
  pub killed : (c : Cell) (code : ℕ) → IsLater c (killed code c)

pub later_goes : Grows → (event : Event) (old new : Cell) → CellGoes event old new → IsLater old new
later_goes grows event old new (stays e) = subst (IsLater old) (sym e) (grows.same old)
later_goes grows event old new (starts e) = subst (IsLater old) (sym e) (grows.started old)
later_goes grows event old new (ends code e) = subst (IsLater old) (sym e) (grows.killed old code)
later_goes grows event old new (steps did e s) = grows.stepped old did new s

-- the content of a slot after a cell was there: a later one, or none
abbrev pub IsAfter : Cell → Slot → Type 0
IsAfter cell Free = ⊥
IsAfter cell (There c) = IsLater cell c
IsAfter cell Gone = ⊤

after_goes : Grows → (event : Event) (Made : Cell → Type 0) (cell : Cell) (old new : Slot)
    → SlotGoes Made (CellGoes event) old new → IsAfter cell old → IsAfter cell new
after_goes grows event Made cell Free new goes after = absurd after
after_goes grows event Made cell (There c) Free goes after = absurd goes
after_goes grows event Made cell (There c) (There d) goes after =
    grows.later cell c d after (later_goes grows event c d goes)
after_goes grows event Made cell (There c) Gone goes after = tt
after_goes grows event Made cell Gone Free goes after = absurd goes
after_goes grows event Made cell Gone (There d) goes after = absurd goes
after_goes grows event Made cell Gone Gone goes after = tt

pub seen_now : Grows → (baseline : Option (List Insn)) (key : Key) (cell : Cell) (ls : List Link)
    → IsRun baseline ls → Seen ls key cell → IsAfter cell (slot_of (now baseline ls) key)
seen_now grows baseline key cell [] run (l, i, is) = absurd i
seen_now grows baseline key cell (m ∷ ls) run (l, inl e, is) =
    subst (IsAfter cell) (sym is ∙ ap (λ (n : Link). slot_of n.new key) e) (grows.same cell)
seen_now grows baseline key cell (m ∷ ls) run (l, inr i, is) =
    let holds : LinkHolds baseline m = first_holds baseline m ls run in
    let before : IsAfter cell (slot_of m.old key) =
    subst (λ r. IsAfter cell (slot_of r key)) (sym run.0)
    (seen_now grows baseline key cell ls run.2 (l, i, is)) in
    after_goes grows m.event (IsMadeIn m.old m.event m.new key) cell (slot_of m.old key) (slot_of m.new key)
    (key_goes m.old m.event m.new holds.goes key) before

-- of two cells that were seen under a key, one is the later one
pub seen_both : Grows → (baseline : Option (List Insn)) (key : Key) (c d : Cell) (ls : List Link)
    → IsRun baseline ls → Seen ls key c → Seen ls key d → IsLater c d ⊎ IsLater d c
seen_both grows baseline key c d [] run (l, i, is) there = absurd i
seen_both grows baseline key c d (m ∷ ls) run (l, inl e, is) there =
    inr (subst (IsAfter d) (ap (λ (n : Link). slot_of n.new key) (sym e) ∙ is)
    (seen_now grows baseline key d (m ∷ ls) run there))
seen_both grows baseline key c d (m ∷ ls) run (l, inr i, is) (n, inl e, there) =
    inl (subst (IsAfter c) (ap (λ (n : Link). slot_of n.new key) (sym e) ∙ there)
    (seen_now grows baseline key c (m ∷ ls) run (l, inr i, is)))
seen_both grows baseline key c d (m ∷ ls) run (l, inr i, is) (n, inr j, there) =
    seen_both grows baseline key c d ls run.2 (l, i, is) (n, j, there)

-- no seen id is above those that were made so far
seen_bound : (baseline : Option (List Insn)) (key : Key) (cell : Cell) (ls : List Link) → IsRun baseline ls
    → Seen ls key cell → id_of cell ≤ (now baseline ls).made
seen_bound baseline key cell [] run (l, i, is) = absurd i
seen_bound baseline key cell (m ∷ ls) run (l, inl e, is) =
    (now_holds baseline (m ∷ ls) run).0.ids.bounded key cell (ap (λ (n : Link). slot_of n.new key) (sym e)
    ∙ is)
seen_bound baseline key cell (m ∷ ls) run (l, inr i, is) =
    let holds : LinkHolds baseline m = first_holds baseline m ls run in
    let below : id_of cell ≤ (now baseline ls).made = seen_bound baseline key cell ls run.2 (l, i, is) in
    let was : m.old.made ≡ (now baseline ls).made = ap (λ (r : Runtime). r.made) run.0 in
    let grows : m.old.made ≤ m.new.made = holds.goes.made in
    omega arith

-- an id that is there after a link is that of a cell that was there before, or a new one
id_before : (baseline : Option (List Insn)) (key other : Key) (c d : Cell) (m : Link) (ls : List Link)
    → IsRun baseline (m ∷ ls) → slot_of m.new key ≡ There c → Seen ls other d → id_of c ≡ id_of d
    → ((before : Cell) → Seen ls key before → id_of before ≡ id_of d → key ≡ other) → key ≡ other
id_before baseline key other c d m ls run is there same older =
    let holds : LinkHolds baseline m = first_holds baseline m ls run in
    elim (came_from m.old m.event m.new key c (key_goes m.old m.event m.new holds.goes key) is) [
      | inl (before, was, goes) ↦
          older before (there_seen baseline ls key before
          (subst (λ r. slot_of r key ≡ There before) run.0 was))
          (sym (same_id m.old m.event before c goes) ∙ same)
      | inr (made, was) ↦
          let new : id_of c ≡ m.old.made + 1 = made_id m.old m.event m.new key c made in
          let below : id_of d ≤ (now baseline ls).made = seen_bound baseline other d ls run.2 there in
          let old : m.old.made ≡ (now baseline ls).made = ap (λ (r : Runtime). r.made) run.0 in
          absurd (omega arith)
    ]

pub one_id : (baseline : Option (List Insn)) (key other : Key) (c d : Cell) (ls : List Link)
    → IsRun baseline ls → Seen ls key c → Seen ls other d → id_of c ≡ id_of d → key ≡ other
one_id baseline key other c d [] run (l, i, is) there same = absurd i
one_id baseline key other c d (m ∷ ls) run (l, inl e, is) (n, inl f, there) same =
    (now_holds baseline (m ∷ ls) run).0.ids.apart key other c d (ap (λ (n : Link). slot_of n.new key) (sym e)
    ∙ is) (ap (λ (n : Link). slot_of n.new other) (sym f) ∙ there) same
one_id baseline key other c d (m ∷ ls) run (l, inl e, is) (n, inr j, there) same =
    id_before baseline key other c d m ls run (ap (λ (n : Link). slot_of n.new key) (sym e) ∙ is)
    (n, j, there) same
    (λ before seen equal. one_id baseline key other before d ls run.2 seen (n, j, there) equal)
one_id baseline key other c d (m ∷ ls) run (l, inr i, is) (n, inl f, there) same =
    sym (id_before baseline other key d c m ls run (ap (λ (n : Link). slot_of n.new other) (sym f) ∙ there)
    (l, i, is) (sym same)
    (λ before seen equal. sym (one_id baseline key other c before ls run.2 (l, i, is) seen (sym equal))))
one_id baseline key other c d (m ∷ ls) run (l, inr i, is) (n, inr j, there) same =
    one_id baseline key other c d ls run.2 (l, i, is) (n, j, there) same
