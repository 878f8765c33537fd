-- Which cells do not run, by what is known under the locks of the registry and of a sandbox.
use Rattle.std.proofs.Common.{◌≡◌, ◌≢◌, inl, inr, ℕ, Bool, true, false, List, [], ◌∷◌, map, refl, sym, ap}
use Rattle.std.proofs.Common.{subst, ◌∙◌, Option, Some, None, cond, arith}
use Rattle.std.specs.Prelude.{◌==◌, ◌<◌, not}
use Rattle.std.proofs.lemmas.Bool.{eqb-true}
use Rattle.runtime_cell.specs.Cell.{Cell}
use Rattle.registry.specs.declared.registry.Registry.{Registry}
use Rattle.registry.specs.Kept.{home_in}
use Rattle.registry.specs.Runtime.{In, Runtime, id_of}
use Rattle.registry.specs.declared.stage.Stage.{Stage}
use Rattle.registry.specs.declared.stage.Stage.TheVariants as stage
use Rattle.registry.specs.Stands.{IsEmptyIn, RiseAbove, stages_in}
use Rattle.runtime_history.specs.History.{IsRunning}
use Rattle.runtime_history.specs.Agreed.{HasCells, HasRegistry, IsHome, IsOver, cells_in, without}
use Rattle.runtime_history.specs.Sandboxes.{IsLive}

in_ids : (cells : List Cell) (cell : Cell) → In cell cells → In (id_of cell) (map id_of cells)
in_ids [] cell at = at
in_ids (x ∷ xs) cell (inl here) = inl (ap id_of here)
in_ids (x ∷ xs) cell (inr there) = inr (in_ids xs cell there)

-- the sandbox of an existing cell
home_of : (s : Runtime) (r : Registry) → HasRegistry s r → (uid : List ℕ) (cell : Cell)
    → In cell (cells_in s uid) → home_in r.homes (id_of cell) ≡ Some uid
home_of s r has uid cell at = ((has.agrees uid).home (id_of cell)).1 (in_ids (cells_in s uid) cell at)

-- if there is a cell, there is a sandbox
live_with : (st : Stage) (cells : List Cell) (cell : Cell) → In cell cells → IsEmptyIn st cells → IsLive st
live_with stage.Unknown cells cell at none = absurd (subst (λ (l : List Cell). In cell l) none at)
live_with (stage.Live ready) cells cell at none = tt
live_with stage.Removed cells cell at none = absurd (subst (λ (l : List Cell). In cell l) none at)

pub at_home : (s : Runtime) (r : Registry) → HasRegistry s r → (id : ℕ) (runs : IsRunning s id)
    → IsHome r id runs.uid
at_home s r has id runs = record {
  home = ap (home_in r.homes) (sym runs.is) ∙ home_of s r has runs.uid runs.cell runs.there;
  live = live_with (stages_in r runs.uid) (cells_in s runs.uid) runs.cell runs.there
      (has.agrees runs.uid).empty;
}

above_all : (low : ℕ) (cells : List Cell) (cell : Cell) → RiseAbove low (map id_of cells) → In cell cells
    → low < id_of cell
above_all low [] cell rise at = absurd at
above_all low (x ∷ xs) cell rise (inl here) =
    let same : id_of cell ≡ id_of x = ap id_of here in let y = rise.0 in omega arith
above_all low (x ∷ xs) cell rise (inr there) =
    let more = above_all (id_of x) xs cell rise.1 there in let y = rise.0 in omega arith

-- no id is there twice
same_cell : (low : ℕ) (cells : List Cell) (a b : Cell) → RiseAbove low (map id_of cells) → In a cells
    → In b cells → id_of a ≡ id_of b → a ≡ b
same_cell low [] a b rise at there same = absurd at
same_cell low (x ∷ xs) a b rise (inl here) (inl there) same = here ∙ sym there
same_cell low (x ∷ xs) a b rise (inl here) (inr there) same =
    let more = above_all (id_of x) xs b rise.1 there in
    let is : id_of a ≡ id_of x = ap id_of here in absurd (omega arith)
same_cell low (x ∷ xs) a b rise (inr here) (inl there) same =
    let more = above_all (id_of x) xs a rise.1 here in
    let is : id_of b ≡ id_of x = ap id_of there in absurd (omega arith)
same_cell low (x ∷ xs) a b rise (inr here) (inr there) same =
    same_cell (id_of x) xs a b rise.1 here there same

same_some : (a b : List ℕ) → Some a ≡ Some b → a ≡ b
same_some a b is = cc

-- a cell that runs is among those of its home
in_home : (s : Runtime) (r : Registry) (uid : List ℕ) (id : ℕ) → HasRegistry s r
    → home_in r.homes id ≡ Some uid → (runs : IsRunning s id) → In runs.cell (cells_in s uid)
in_home s r uid id has here runs =
    let same : runs.uid ≡ uid = same_some _ _ (sym (at_home s r has id runs).home ∙ here) in
    subst (λ (u : List ℕ). In runs.cell (cells_in s u)) same runs.there

pub not_running : (s : Runtime) (r : Registry) (uid : List ℕ) (cells : List Cell) (id : ℕ) → HasRegistry s r
    → HasCells s uid cells → IsOver r uid cells id → IsRunning s id → ⊥
not_running s r uid cells id has held (inl over) runs =
    let at : In over.0 (cells_in s uid) = subst (λ (l : List Cell). In over.0 l) (sym held.are) over.1 in
    let here : home_in r.homes id ≡ Some uid =
    ap (home_in r.homes) (sym over.2) ∙ home_of s r has uid over.0 at in
    let its = in_home s r uid id has here runs in
    let is : runs.cell ≡ over.0 =
    same_cell 0 (cells_in s uid) runs.cell over.0 (has.agrees uid).rise its at (runs.is ∙ sym over.2) in
    over.3 (sym (ap (λ (c : Cell). c.state) is) ∙ runs.runs)
not_running s r uid cells id has held (inr (inl gone)) runs =
    not_both (home_in r.homes id) runs.uid gone (at_home s r has id runs).home
  where
    not_both : (o : Option (List ℕ)) (u : List ℕ) → o ≡ None → o ≡ Some u → ⊥
    not_both o u none some = cc
not_running s r uid cells id has held (inr (inr none)) runs = none.1 runs.cell
    (subst (λ (l : List Cell). In runs.cell l) held.are (in_home s r uid id has none.0 runs)) runs.is

in_kept : (id x i : ℕ) (xs ys : List ℕ) (test : Bool) → (id == x) ≡ test → i ≢ id → (In i xs → In i ys)
    → In i (x ∷ xs) → In i (cond (not test) (x ∷ ys) ys)
in_kept id x i xs ys true is other rest (inl here) = absurd (other (here ∙ sym (eqb-true id x is)))
in_kept id x i xs ys true is other rest (inr there) = rest there
in_kept id x i xs ys false is other rest (inl here) = inl here
in_kept id x i xs ys false is other rest (inr there) = inr (rest there)

-- each other one stays
pub in_without : (id : ℕ) (ids : List ℕ) (i : ℕ) → In i ids → i ≢ id → In i (without id ids)
in_without id [] i at other = at
in_without id (x ∷ xs) i at other = in_kept id x i xs (without id xs) (id == x) refl other
    (λ there. in_without id xs i there other) at
