-- Changes of cells keep their ids.
use Rattle.std.proofs.Common.{◌≡◌, ℕ, Bool, true, false, List, [], ◌∷◌, map, refl, ap}
use mathlib.Core.Bool.{cond}
use Rattle.runtime_cell.specs.Cell.{Cell, killed, started}
use Rattle.registry.specs.Runtime.{change_first, id_of}

changed_step : (b : Bool) (f : Cell → Cell) (cell : Cell) (cells rest : List Cell)
    → id_of (f cell) ≡ id_of cell → map id_of rest ≡ map id_of cells
    → map id_of (cond b (f cell ∷ cells) (cell ∷ rest)) ≡ map id_of (cell ∷ cells)
changed_step true f cell cells rest same more = ap (λ id. id ∷ map id_of cells) same
changed_step false f cell cells rest same more = ap (λ ids. id_of cell ∷ ids) more

pub ids_changed : (test : Cell → Bool) (f : Cell → Cell) → ((cell : Cell) → id_of (f cell) ≡ id_of cell)
    → (cells : List Cell) → map id_of (change_first test f cells) ≡ map id_of cells
ids_changed test f same [] = refl
ids_changed test f same (cell ∷ cells) =
    changed_step (test cell) f cell cells (change_first test f cells) (same cell)
    (ids_changed test f same cells)

pub ids_started : (test : Cell → Bool) (cells : List Cell) → map id_of (change_first test started cells)
    ≡ map id_of cells
ids_started test cells = ids_changed test started (λ cell. refl) cells

pub ids_killed : (test : Cell → Bool) (code : ℕ) (cells : List Cell)
    → map id_of (change_first test (killed code) cells) ≡ map id_of cells
ids_killed test code cells = ids_changed test (killed code) (λ cell. refl) cells

pub ids_ended : (code : ℕ) (cells : List Cell) → map id_of (map (killed code) cells) ≡ map id_of cells
ids_ended code [] = refl
ids_ended code (cell ∷ cells) = ap (λ ids. id_of cell ∷ ids) (ids_ended code cells)
