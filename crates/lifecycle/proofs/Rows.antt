-- The runs that the back-off counts, from the latest long one on.
use Rattle.std.proofs.Common.{◌≡◌, ℕ, ◌+◌, ◌++◌, ◌<◌, ◌≤◌, List, [], ◌∷◌, length, Bool, true, ◌||◌, refl, ap}
use Rattle.std.proofs.Common.{◌∙◌, arith}
use Rattle.std.proofs.lemmas.Bool.{le-leb, lt-leb}
use Rattle.std.proofs.lemmas.List.Elements.{All-head, All-tail}
use Rattle.std.proofs.lemmas.List.Sums.{fold-append}
use Rattle.std.specs.List.{All, fold, list_all}
use Rattle.lifecycle.specs.BackOff.{Run, lasted, next_row, row_of}

abbrev IsShort : Run → Type 0
IsShort run = lasted run < 600

-- short runs lengthen the row
pub row_on : (row : ℕ) (runs : List Run) → All (λ run. lasted run < 600) runs
    → fold next_row row runs ≡ length runs + row
row_on row [] short = omega arith
row_on row (run ∷ runs) short =
    let head : next_row row run ≡ row + 1 =
    rw (lt-leb 600 (lasted run) (All-head IsShort run runs short)) refl in
    let rest : fold next_row (row + 1) runs ≡ length runs + (row + 1) =
    row_on (row + 1) runs (All-tail IsShort run runs short) in
    rw head (rest ∙ omega arith)

-- a long run begins the row
pub row_begins : (earlier later : List Run) (run : Run) → 600 ≤ lasted run
    → All (λ after. lasted after < 600) later → row_of (earlier ++ run ∷ later) ≡ length later + 1
row_begins earlier later run long short =
    let head : next_row (row_of earlier) run ≡ 1 = rw (le-leb 600 (lasted run) long) refl in
    fold-append next_row 0 earlier (run ∷ later) ∙ ap (λ row. fold next_row row later) head
    ∙ row_on 1 later short

-- if one test holds for each, so does it or another
pub all_either : {X : Type 0} (one other : X → Bool) (xs : List X) → All (λ x. one x ≡ true) xs
    → list_all (λ x. one x || other x) xs ≡ true
all_either one other [] all = refl
all_either {X} one other (x ∷ xs) all =
    rw (All-head (λ (y : X). one y ≡ true) x xs all)
    (all_either one other xs (All-tail (λ (y : X). one y ≡ true) x xs all))
