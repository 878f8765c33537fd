-- The first one of a list that passes a test, by its place.
use Rattle.std.proofs.Common.{◌≡◌, ℕ, zero, suc, ◌+◌, ◌≤◌, ◌<◌, nat_lt, Bool, true, false, List, [], ◌∷◌}
use Rattle.std.proofs.Common.{◌++◌, length, map, take, drop, Option, Some, None, slice_get, refl, sym, ap}
use Rattle.std.proofs.Common.{subst, ◌∙◌, arith}
use mathlib.Core.Bool.{cond}
use Rattle.std.proofs.Math.ListN.{set}
use Rattle.std.specs.List.{find, position, position_or_len, remove}
use Rattle.std.proofs.lemmas.Bool.{ltb-false}
use Rattle.std.proofs.lemmas.List.Recursion.{is_position_or_len}
use Rattle.std.specs.Prelude.{slice_index_or}
use Rattle.registry.specs.Runtime.{change_first, drop_first}

-- the place, or the length if none passes
abbrev pub place : {A : Type 0} → (A → Bool) → List A → ℕ
place test [] = 0
place test (x ∷ xs) = cond (test x) 0 (suc (place test xs))

pub place_is : {A : Type 0} (test : A → Bool) (xs : List A) → place test xs ≡ position_or_len test xs
place_is test xs = is_position_or_len (place test) test refl (λ x ys. ap (cond (test x) 0) (omega arith)) xs

some_of : (b : Bool) (n i : ℕ) → cond b (Some n) None ≡ Some i → n ≡ i
some_of true n i e = cc
some_of false n i e = absurd cc

none_of : (b : Bool) (n m : ℕ) → nat_lt n m ≡ b → cond b (Some n) None ≡ None → m ≤ n
none_of true n m is e = absurd cc
none_of false n m is e = ltb-false n m is

pub found_at : {A : Type 0} (test : A → Bool) (xs : List A) (i : ℕ) → position test xs ≡ Some i
    → place test xs ≡ i
found_at test xs i e = place_is test xs ∙ some_of _ _ i e

pub found_none : {A : Type 0} (test : A → Bool) (xs : List A) → position test xs ≡ None
    → length xs ≤ place test xs
found_none test xs e = subst (λ n. length xs ≤ n) (sym (place_is test xs)) (none_of _ _ _ refl e)

set_step : {A : Type 0} (b : Bool) (f : A → A) (x d : A) (xs rest : List A) (n : ℕ)
    → set xs n (f (slice_index_or xs n d)) ≡ rest
    → set (x ∷ xs) (cond b 0 (suc n)) (f (slice_index_or (x ∷ xs) (cond b 0 (suc n)) d))
    ≡ cond b (f x ∷ xs) (x ∷ rest)
set_step true f x d xs rest n e = refl
set_step false f x d xs rest n e = ap (λ ys. x ∷ ys) e

pub changed : {A : Type 0} (test : A → Bool) (f : A → A) (d : A) (xs : List A)
    → set xs (place test xs) (f (slice_index_or xs (place test xs) d)) ≡ change_first test f xs
changed test f d [] = refl
changed test f d (x ∷ xs) = set_step (test x) f x d xs (change_first test f xs) (place test xs)
    (changed test f d xs)

drop_step : {A : Type 0} (b : Bool) (x : A) (xs rest : List A) (n : ℕ) → remove xs n ≡ rest
    → remove (x ∷ xs) (cond b 0 (suc n)) ≡ cond b xs (x ∷ rest)
drop_step true x xs rest n e = refl
drop_step false x xs rest n e = ap (λ ys. x ∷ ys) e

pub dropped : {A : Type 0} (test : A → Bool) (xs : List A) → remove xs (place test xs) ≡ drop_first test xs
dropped test [] = refl
dropped test (x ∷ xs) = drop_step (test x) x xs (drop_first test xs) (place test xs) (dropped test xs)

find_step : {A : Type 0} (b : Bool) (x : A) (xs : List A) (rest : Option A) (n : ℕ) → slice_get xs n ≡ rest
    → slice_get (x ∷ xs) (cond b 0 (suc n)) ≡ cond b (Some x) rest
find_step true x xs rest n e = refl
find_step false x xs rest n e = e

pub found : {A : Type 0} (test : A → Bool) (xs : List A) → slice_get xs (place test xs) ≡ find test xs
found test [] = refl
found test (x ∷ xs) = find_step (test x) x xs (find test xs) (place test xs) (found test xs)

same_step : {A : Type 0} (b : Bool) (f : A → A) (x : A) (xs rest : List A) (n : ℕ)
    → suc (length xs) ≤ cond b 0 (suc n)
    → (length xs ≤ n → rest ≡ xs) → cond b (f x ∷ xs) (x ∷ rest) ≡ x ∷ xs
same_step true f x xs rest n le e = absurd (omega arith)
same_step false f x xs rest n le e = ap (λ ys. x ∷ ys) (e (omega arith))

-- if none passes nothing changes
pub unchanged : {A : Type 0} (test : A → Bool) (f : A → A) (xs : List A) → length xs ≤ place test xs
    → change_first test f xs ≡ xs
unchanged test f [] le = refl
unchanged test f (x ∷ xs) le = same_step (test x) f x xs (change_first test f xs) (place test xs) le
    (unchanged test f xs)

still_step : {A : Type 0} (b : Bool) (x : A) (xs rest : List A) (n : ℕ) → suc (length xs) ≤ cond b 0 (suc n)
    → (length xs ≤ n → rest ≡ xs) → cond b xs (x ∷ rest) ≡ x ∷ xs
still_step true x xs rest n le e = absurd (omega arith)
still_step false x xs rest n le e = ap (λ ys. x ∷ ys) (e (omega arith))

pub undropped : {A : Type 0} (test : A → Bool) (xs : List A) → length xs ≤ place test xs
    → drop_first test xs ≡ xs
undropped test [] le = refl
undropped test (x ∷ xs) le = still_step (test x) x xs (drop_first test xs) (place test xs) le
    (undropped test xs)

lost_step : {A : Type 0} (b : Bool) (x : A) (xs : List A) (rest : Option A) (n : ℕ)
    → suc (length xs) ≤ cond b 0 (suc n)
    → (length xs ≤ n → rest ≡ None) → cond b (Some x) rest ≡ None
lost_step true x xs rest n le e = absurd (omega arith)
lost_step false x xs rest n le e = e (omega arith)

pub lost : {A : Type 0} (test : A → Bool) (xs : List A) → length xs ≤ place test xs → find test xs ≡ None
lost test [] le = refl
lost test (x ∷ xs) le = lost_step (test x) x xs (find test xs) (place test xs) le (lost test xs)

length_step : {A : Type 0} (b : Bool) (f : A → A) (x : A) (xs rest : List A) → length rest ≡ length xs
    → length (cond b (f x ∷ xs) (x ∷ rest)) ≡ suc (length xs)
length_step true f x xs rest e = refl
length_step false f x xs rest e = ap suc e

pub length_changed : {A : Type 0} (test : A → Bool) (f : A → A) (xs : List A)
    → length (change_first test f xs) ≡ length xs
length_changed test f [] = refl
length_changed test f (x ∷ xs) = length_step (test x) f x xs (change_first test f xs)
    (length_changed test f xs)

fewer_step : {A : Type 0} (b : Bool) (x : A) (xs rest : List A) → length rest ≤ length xs
    → length (cond b xs (x ∷ rest)) ≤ suc (length xs)
fewer_step true x xs rest e = omega arith
fewer_step false x xs rest e = omega arith

pub length_dropped : {A : Type 0} (test : A → Bool) (xs : List A) → length (drop_first test xs) ≤ length xs
length_dropped test [] = omega arith
length_dropped test (x ∷ xs) = fewer_step (test x) x xs (drop_first test xs) (length_dropped test xs)

-- the next one of a list is changed
pub map_more : {A : Type 0} (f : A → A) (xs : List A) (i : ℕ) (d : A)
    → i < length (map f (take i xs) ++ drop i xs)
    → set (map f (take i xs) ++ drop i xs) i (f (slice_index_or (map f (take i xs) ++ drop i xs) i d))
    ≡ map f (take (suc i) xs) ++ drop (suc i) xs
map_more f [] zero d inside = absurd (omega arith)
map_more f [] (suc i) d inside = absurd (omega arith)
map_more f (x ∷ xs) zero d inside = refl
map_more f (x ∷ xs) (suc i) d inside = ap (λ ys. f x ∷ ys) (map_more f xs i d (omega arith))

pub map_next : {A : Type 0} (f : A → A) (xs ys : List A) (i : ℕ) (y d : A)
    → ys ≡ map f (take i xs) ++ drop i xs → i < length ys
    → y ≡ f (slice_index_or ys i d) → set ys i y ≡ map f (take (i + 1) xs) ++ drop (i + 1) xs
map_next f xs ys i y d same inside is =
    let next : suc i ≡ i + 1 = omega arith in
    subst (λ n. set ys i y ≡ map f (take n xs) ++ drop n xs) next
    (subst (λ zs. i < length zs → y ≡ f (slice_index_or zs i d)
    → set zs i y ≡ map f (take (suc i) xs) ++ drop (suc i) xs) (sym same)
    (λ within e. ap (set (map f (take i xs) ++ drop i xs) i) e ∙ map_more f xs i d within) inside is)
