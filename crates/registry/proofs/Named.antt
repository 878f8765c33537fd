-- Changes of cells keep their names.
use Rattle.std.proofs.Common.{◌≡◌, ℕ, zero, suc, ◌<◌, ◌-◌, Bool, true, false, IsTrue, List, [], ◌∷◌, ◌++◌}
use Rattle.std.proofs.Common.{length, map, take, refl, sym, subst, arith}
use mathlib.Core.Bool.{cond}
use Rattle.std.specs.Prelude.{slice_index_or}
use Rattle.manifest.specs.Texts.{is_label}
use Rattle.runtime_cell.specs.Cell.{Cell, killed, started}
use Rattle.registry.specs.Kept.{AreNamed}
use Rattle.registry.specs.Runtime.{change_first, drop_first}

changed_step : (b : Bool) (cell later : Cell) (cells rest : List Cell) → later.making ≡ cell.making
    → AreNamed (cell ∷ cells) → AreNamed rest
    → AreNamed (cond b (later ∷ cells) (cell ∷ rest))
changed_step true cell later cells rest same named more =
    (subst (λ m. IsTrue (is_label m.label.name)) (sym same) named.0, named.1)
changed_step false cell later cells rest same named more = (named.0, more)

pub named_changed : (test : Cell → Bool) (f : Cell → Cell) → ((cell : Cell) → (f cell).making ≡ cell.making)
    → (cells : List Cell) → AreNamed cells
    → AreNamed (change_first test f cells)
named_changed test f same [] named = named
named_changed test f same (cell ∷ cells) named =
    changed_step (test cell) cell (f cell) cells (change_first test f cells) (same cell) named
    (named_changed test f same cells named.1)

pub named_started : (test : Cell → Bool) (cells : List Cell) → AreNamed cells
    → AreNamed (change_first test started cells)
named_started test cells named = named_changed test started (λ cell. refl) cells named

pub named_killed : (test : Cell → Bool) (code : ℕ) (cells : List Cell) → AreNamed cells
    → AreNamed (change_first test (killed code) cells)
named_killed test code cells named = named_changed test (killed code) (λ cell. refl) cells named

pub named_ended : (code : ℕ) (cells : List Cell) → AreNamed cells → AreNamed (map (killed code) cells)
named_ended code [] named = named
named_ended code (cell ∷ cells) named = (named.0, named_ended code cells named.1)

dropped_step : (b : Bool) (cell : Cell) (cells rest : List Cell) → AreNamed (cell ∷ cells) → AreNamed rest
    → AreNamed (cond b cells (cell ∷ rest))
dropped_step true cell cells rest named more = named.1
dropped_step false cell cells rest named more = (named.0, more)

pub named_dropped : (test : Cell → Bool) (cells : List Cell) → AreNamed cells
    → AreNamed (drop_first test cells)
named_dropped test [] named = named
named_dropped test (cell ∷ cells) named =
    dropped_step (test cell) cell cells (drop_first test cells) named (named_dropped test cells named.1)

pub named_more : (cells : List Cell) (cell : Cell) → AreNamed cells → IsTrue (is_label cell.making.label.name)
    → AreNamed (cells ++ cell ∷ [])
named_more [] cell named is = (is, named)
named_more (first ∷ cells) cell named is = (named.0, named_more cells cell named.1 is)

pub named_first : (n : ℕ) (cells : List Cell) → AreNamed cells → AreNamed (take n cells)
named_first zero cells named = tt
named_first (suc n) [] named = named
named_first (suc n) (cell ∷ cells) named = (named.0, named_first n cells named.1)

pub named_fewer : (cells : List Cell) → AreNamed cells → AreNamed (take (length cells - 1) cells)
named_fewer cells named = named_first (length cells - 1) cells named

-- a cell of the list becomes one of the same making
pub named_set : (front back : List Cell) (cell later : Cell) → later.making ≡ cell.making
    → AreNamed (front ++ cell ∷ back) → AreNamed (front ++ later ∷ back)
named_set [] back cell later same named =
    (subst (λ m. IsTrue (is_label m.label.name)) (sym same) named.0, named.1)
named_set (first ∷ front) back cell later same named = (named.0, named_set front back cell later same named.1)

pub named_here : (cells : List Cell) (i : ℕ) (d : Cell) → AreNamed cells → i < length cells
    → IsTrue (is_label (slice_index_or cells i d).making.label.name)
named_here [] i d named inside = absurd (omega arith)
named_here (cell ∷ cells) zero d named inside = named.0
named_here (cell ∷ cells) (suc i) d named inside = named_here cells i d named.1 (omega arith)
