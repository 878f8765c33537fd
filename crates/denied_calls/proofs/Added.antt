-- A list with something for each element that is the first of its kind, made element by element: what was made
-- of the elements so far, with one more.
use Rattle.std.proofs.Common.{◌≡◌, ℕ, ◌+◌, ◌<◌, Bool, true, false, List, [], ◌∷◌, ◌++◌, length}
use Rattle.std.proofs.Common.{take, drop, drop-cons, get_or, add-one, arith, sym, ap, ◌∙◌}
use Rattle.std.specs.Prelude.{filter_map}
use Rattle.std.specs.List.{enumerate_from, list_any}
use Rattle.denied_calls.specs.Firsts.{first_made}
use Rattle.std.proofs.Math.Seq.{take-suc}
use Rattle.std.proofs.lemmas.Grind.{common_steps}
use Rattle.std.proofs.lemmas.List.Folds.{list_any-append}

-- elements of one kind have the same before them
same_before : {A : Type 0} (same : A → A → Bool) (b c : A) (before : List A)
    → ((a b c : A) → same b c ≡ true → same a b ≡ true → same a c ≡ true) → same b c ≡ true
    → list_any (λ other. same other b) before ≡ true → list_any (λ other. same other c) before ≡ true
same_before same b c [] again alike is = is
same_before same b c (a ∷ before) again alike is =
    grind (arith, common_steps, again a b c alike, same_before same b c before again alike)

-- what was made is of these elements
abbrev pub Tells : {A T : Type 0} → (A → A → Bool) → (A → T → Bool) → List T → List A → Type 0
Tells {A} same of made before = (x : A) → list_any (of x) made ≡ list_any (λ other. same other x) before

pub tells_first : {A T : Type 0} (same : A → A → Bool) (of : A → T → Bool) (made : List T) (before : List A)
    (x : A) (t : T) → ((y : A) → of y t ≡ same x y) → Tells same of made before
    → Tells same of (made ++ t ∷ []) (before ++ x ∷ [])
tells_first same of made before x t is so_far y =
    grind (
      arith,
      common_steps,
      so_far y,
      is y,
      list_any-append (of y) made (t ∷ []),
      list_any-append (λ other. same other y) before (x ∷ []),
    )

pub tells_other : {A T : Type 0} (same : A → A → Bool) (of : A → T → Bool) (made : List T) (before : List A)
    (x : A) → ((a b c : A) → same b c ≡ true → same a b ≡ true → same a c ≡ true)
    → list_any (of x) made ≡ true → Tells same of made before → Tells same of made (before ++ x ∷ [])
tells_other same of made before x again old so_far y =
    grind (
      arith,
      common_steps,
      so_far y,
      so_far x,
      same_before same x y before again,
      list_any-append (λ other. same other y) before (x ∷ []),
    )

-- what was made so far, and what is made from this place on
abbrev pub Adds : {A T : Type 0} → (A → A → Bool) → (ℕ → A → T) → List A → List T → ℕ → List T → Type 0
Adds same make xs made place whole =
    made ++ filter_map (first_made same make xs) (enumerate_from place (drop place xs)) ≡ whole

pub adds_first : {A T : Type 0} (same : A → A → Bool) (of : A → T → Bool) (make : ℕ → A → T) (xs : List A)
    (made whole : List T) (place : ℕ) (x : A) → place < length xs → x ≡ get_or xs place x
    → list_any (of x) made ≡ false → Tells same of made (take place xs) → Adds same make xs made place whole
    → Adds same make xs (made ++ make place x ∷ []) (place + 1) whole
adds_first same of make xs made whole place x inside is new so_far adds =
    grind (arith, common_steps, drop-cons xs place x, so_far x)

pub adds_other : {A T : Type 0} (same : A → A → Bool) (of : A → T → Bool) (make : ℕ → A → T) (xs : List A)
    (made whole : List T) (place : ℕ) (x : A) → place < length xs → x ≡ get_or xs place x
    → list_any (of x) made ≡ true → Tells same of made (take place xs) → Adds same make xs made place whole
    → Adds same make xs made (place + 1) whole
adds_other same of make xs made whole place x inside is old so_far adds =
    grind (arith, common_steps, drop-cons xs place x, so_far x)

pub longer : {A : Type 0} (xs : List A) (place : ℕ) (x : A) → place < length xs → x ≡ get_or xs place x
    → take place xs ++ x ∷ [] ≡ take (place + 1) xs
longer xs place x inside is = ap (λ y. take place xs ++ y ∷ []) is
    ∙ sym (ap (λ n. take n xs) (add-one place) ∙ take-suc xs place x inside)
