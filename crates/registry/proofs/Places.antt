-- A list around one of its places.
use Rattle.std.proofs.Common.{◌≡◌, ℕ, zero, suc, ◌<◌, ◌≤◌, ◌-◌, Bool, true, false, List, [], ◌∷◌, ◌++◌}
use Rattle.std.proofs.Common.{length, map, take, drop, refl, sym, ap, inl, inr, Some, None, ◌==◌, ◌∙◌, subst}
use Rattle.std.proofs.Common.{length-append, arith}
use mathlib.Core.Bool.{cond}
use Rattle.std.proofs.Math.ListN.{set}
use Rattle.std.specs.Prelude.{slice_index_or}
use Rattle.std.specs.List.{position}
use Rattle.std.proofs.lemmas.Bool.{eqb-false, eqb-true}
use Rattle.std.proofs.lemmas.List.{take_at}
use Rattle.std.proofs.lemmas.List.Quantifiers.{position-Some}
use Rattle.runtime_cell.specs.Cell.{Cell}
use Rattle.registry.specs.Kept.{AreNamed, HasNoneIn, IsAtPlace, MovesIn}
use Rattle.registry.specs.Runtime.{In, id_of}
use Rattle.registry.proofs.Named.{named_set}
use Rattle.registry.proofs.Firsts.{found_none, place}

pub split_at : {A : Type 0} (xs : List A) (i : ℕ) (d : A) → i < length xs
    → xs ≡ take i xs ++ slice_index_or xs i d ∷ drop (suc i) xs
split_at [] i d inside = absurd (omega arith)
split_at (x ∷ xs) zero d inside = refl
split_at (x ∷ xs) (suc i) d inside = ap (λ ys. x ∷ ys) (split_at xs i d (omega arith))

pub set_at : {A : Type 0} (xs : List A) (i : ℕ) (y : A) → i < length xs
    → set xs i y ≡ take i xs ++ y ∷ drop (suc i) xs
set_at [] i y inside = absurd (omega arith)
set_at (x ∷ xs) zero y inside = refl
set_at (x ∷ xs) (suc i) y inside = ap (λ ys. x ∷ ys) (set_at xs i y (omega arith))

none_step : {A : Type 0} (test : A → Bool) (b : Bool) (x : A) (xs : List A) (n : ℕ) (y : A) → test x ≡ b
    → suc (length xs) ≤ cond b 0 (suc n)
    → (length xs ≤ n → In y xs → test y ≡ false) → In y (x ∷ xs) → test y ≡ false
none_step test true x xs n y is le rest among = absurd (omega arith)
none_step test false x xs n y is le rest (inl same) = ap test same ∙ is
none_step test false x xs n y is le rest (inr among) = rest (omega arith) among

pub none_in : {A : Type 0} (test : A → Bool) (xs : List A) (y : A) → length xs ≤ place test xs → In y xs
    → test y ≡ false
none_in test [] y le among = elim among [ ]
none_in test (x ∷ xs) y le among = none_step test (test x) x xs (place test xs) y refl le
    (none_in test xs y) among

pub all_but_last : {A : Type 0} (xs : List A) (x : A) → take (length (xs ++ x ∷ []) - 1) (xs ++ x ∷ []) ≡ xs
all_but_last xs x = take_at xs (x ∷ []) (length (xs ++ x ∷ []) - 1) (omega (arith, length-append xs (x ∷ [])))

-- the one at a place is among them
pub at_in : {A : Type 0} (xs : List A) (i : ℕ) (d : A) → i < length xs → In (slice_index_or xs i d) xs
at_in [] i d inside = absurd (omega arith)
at_in (x ∷ xs) zero d inside = inl refl
at_in (x ∷ xs) (suc i) d inside = inr (at_in xs i d (omega arith))

-- the first cell that a walk finds
pub walked_at : (cells : List Cell) (id at : ℕ) → position (λ cell. id_of cell == id) cells ≡ Some at
    → IsAtPlace cells at id
walked_at cells id at is = λ other.
    let stands = position-Some (λ cell. id_of cell == id) cells at other is in
    (stands.0, eqb-true _ _ stands.1)

-- a cell with the id becomes another one
pub moves_at : (cells : List Cell) (id at : ℕ) (Moves : Cell → Cell → Type 0) (later d : Cell)
    → IsAtPlace cells at id
    → Moves (slice_index_or cells at d) later → MovesIn cells id Moves (set cells at later)
moves_at cells id at Moves later d is moves =
    let stands = is d in
    record {
      front = take at cells;
      cell = slice_index_or cells at d;
      later = later;
      back = drop (suc at) cells;
      stands = split_at cells at d stands.0;
      is = stands.1;
      moves = moves;
      comes = set_at cells at later stands.0;
    }

pub none_at : (cells : List Cell) (id : ℕ) → position (λ cell. id_of cell == id) cells ≡ None
    → HasNoneIn cells id
none_at cells id is = λ cell among same.
    eqb-false (id_of cell) id (none_in (λ c. id_of c == id) cells cell
    (found_none (λ c. id_of c == id) cells is) among) same

-- the cell at the place has the name that the one before had
pub named_at : (cells : List Cell) (at : ℕ) (later d : Cell) → at < length cells
    → later.making ≡ (slice_index_or cells at d).making → AreNamed cells
    → AreNamed (set cells at later)
named_at cells at later d inside same named = subst AreNamed (sym (set_at cells at later inside))
    (named_set (take at cells) (drop (suc at) cells) (slice_index_or cells at d) later same
    (subst AreNamed (split_at cells at d inside) named))

-- and the same id
pub ids_at : (cells : List Cell) (at : ℕ) (later d : Cell) → id_of later ≡ id_of (slice_index_or cells at d)
    → map id_of (set cells at later) ≡ map id_of cells
ids_at [] at later d same = refl
ids_at (cell ∷ cells) zero later d same = ap (λ id. id ∷ map id_of cells) same
ids_at (cell ∷ cells) (suc at) later d same = ap (λ ids. id_of cell ∷ ids) (ids_at cells at later d same)
