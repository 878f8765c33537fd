-- Findings that are kept, seen as texts.
use Rattle.std.proofs.Common.{◌≡◌, List, [], ◌∷◌, Bool, true, false, refl, ap}
use Rattle.std.specs.Prelude.{cond, filter, map}

one : {X Y : Type 0} (f : X → Y) (b : Bool) (x : X) (xs : List X) (ys : List Y) → map f xs ≡ ys
    → map f (cond b (x ∷ xs) xs) ≡ cond b (f x ∷ ys) ys
one f true x xs ys h = ap (λ zs. f x ∷ zs) h
one f false x xs ys h = h

-- what is kept of the texts is the texts of what is kept
pub kept : {X Y : Type 0} (f : X → Y) (q : Y → Bool) (xs : List X)
    → map f (filter (λ x. q (f x)) xs) ≡ filter q (map f xs)
kept f q [] = refl
kept f q (x ∷ xs) = one f (q (f x)) x (filter (λ x. q (f x)) xs) (filter q (map f xs)) (kept f q xs)
