-- The entries that have a property and those that don't are all entries.
use Rattle.std.proofs.Common.{◌≡◌, ◌+◌, Bool, true, false, List, [], ◌∷◌, length, not, count_by, refl, arith}
use mathlib.Core.Bool.{cond}
use Rattle.std.proofs.lemmas.List.Sums.{sum_by-cons}

one : (b : Bool) → cond b 1 0 + cond (not b) 1 0 ≡ 1
one true = refl
one false = refl

pub all_counted : {X : Type 0} (p : X → Bool) (xs : List X) → count_by p xs + count_by (λ x. not (p x)) xs
    ≡ length xs
all_counted p [] = refl
all_counted p (x ∷ xs) =
    let here = one (p x) in
    let more = all_counted p xs in
    let yes = sum_by-cons (λ y. cond (p y) 1 0) x xs in
    let no = sum_by-cons (λ y. cond (not (p y)) 1 0) x xs in
    omega (arith, here, more, yes, no)
