-- Lists with one element changed or removed.
use Rattle.std.proofs.Common.{◌≡◌, ◌⊎◌, inl, inr, ℕ, List, [], ◌∷◌, ◌++◌, length, Option, Some, None}
use Rattle.std.proofs.Common.{slice_get, map, refl, ◌∙◌, sym, ap, suc, zero, arith}
use Rattle.std.specs.List.{remove}
use Rattle.worker_core.specs.declared.slots.Slot.{Slot}
use Rattle.worker_core.specs.Slots.{AllEndedBy, changed, changed_to}

-- what is left was there
pub in_remove : {A : Type 0} (xs : List A) (place at : ℕ) (x : A) → slice_get (remove xs place) at ≡ Some x
    → (j : ℕ) × (slice_get xs j ≡ Some x)
in_remove [] zero at x e = absurd cc
in_remove [] (suc place) at x e = absurd cc
in_remove (y ∷ ys) zero at x e = (suc at, e)
in_remove (y ∷ ys) (suc place) zero x e = (0, e)
in_remove (y ∷ ys) (suc place) (suc at) x e =
    let found : (j : ℕ) × (slice_get ys j ≡ Some x) = in_remove ys place at x e in
    (suc found.0, found.1)

pub ended_by_remove : (now : ℕ) (slots : List Slot) (place : ℕ) → AllEndedBy now slots
    → AllEndedBy now (remove slots place)
ended_by_remove now slots place by at slot e =
    let found : (j : ℕ) × (slice_get slots j ≡ Some slot) = in_remove slots place at slot e in
    by found.0 slot found.1

-- mapping a list commutes with a change of one element
pub changed_behind : {A : Type 0} (f : A → A) (x : A) (xs : List A) (place : ℕ) (o : Option A)
    → changed_to f (x ∷ xs) (suc place) o ≡ x ∷ changed_to f xs place o
changed_behind f x xs place None = refl
changed_behind f x xs place (Some y) = refl

pub map_changed : {A B : Type 0} (g : A → B) (f : A → A) (h : B → B) → ((x : A) → g (f x) ≡ h (g x))
    → (xs : List A) (place : ℕ)
    → map g (changed f xs place) ≡ changed h (map g xs) place
map_changed g f h same [] place = refl
map_changed g f h same (x ∷ xs) zero = λ i. same x i ∷ map g xs
map_changed g f h same (x ∷ xs) (suc place) =
    ap (map g) (changed_behind f x xs place (slice_get xs place))
    ∙ (λ i. g x ∷ map_changed g f h same xs place i)
    ∙ sym (changed_behind h (g x) (map g xs) place (slice_get (map g xs) place))

-- an element of the changed list is as it was, or the one that was changed
pub in_changed : {A : Type 0} (f : A → A) (xs : List A) (place at : ℕ) (y : A)
    → slice_get (changed f xs place) at ≡ Some y
    → (slice_get xs at ≡ Some y) ⊎ ((x : A) × (at ≡ place) × (slice_get xs at ≡ Some x) × (y ≡ f x))
in_changed f [] place at y e = inl e
in_changed f (x ∷ xs) zero zero y e = inr (x, refl, refl, cc)
in_changed f (x ∷ xs) zero (suc at) y e = inl e
in_changed f (x ∷ xs) (suc place) zero y e =
    inl (ap (λ l. slice_get l zero) (sym (changed_behind f x xs place (slice_get xs place))) ∙ e)
in_changed f (x ∷ xs) (suc place) (suc at) y e =
    elim (in_changed f xs place at y (ap (λ l. slice_get l (suc at))
    (sym (changed_behind f x xs place (slice_get xs place))) ∙ e)) [
      | inl same ↦ inl same
      | inr found ↦ inr (found.0, ap (λ (n : ℕ). suc n) found.1, found.2, found.3)
    ]

-- the former place of an element that is left
abbrev pub skip : ℕ → ℕ → ℕ
skip zero at = suc at
skip (suc place) zero = zero
skip (suc place) (suc at) = suc (skip place at)

pub in_remove_at : {A : Type 0} (xs : List A) (place at : ℕ) (x : A) → slice_get (remove xs place) at ≡ Some x
    → slice_get xs (skip place at) ≡ Some x
in_remove_at [] zero at x e = absurd cc
in_remove_at [] (suc place) at x e = absurd cc
in_remove_at (y ∷ ys) zero at x e = e
in_remove_at (y ∷ ys) (suc place) zero x e = e
in_remove_at (y ∷ ys) (suc place) (suc at) x e = in_remove_at ys place at x e

pub skip_apart : (place a b : ℕ) → skip place a ≡ skip place b → a ≡ b
skip_apart zero a b e = omega (arith, e)
skip_apart (suc place) zero zero e = refl
skip_apart (suc place) zero (suc b) e = absurd (omega (arith, e))
skip_apart (suc place) (suc a) zero e = absurd (omega (arith, e))
skip_apart (suc place) (suc a) (suc b) e = ap (λ (n : ℕ). suc n) (skip_apart place a b (omega (arith, e)))

-- an element of the longer list was there, or is the new one
pub in_push : {A : Type 0} (xs : List A) (x : A) (at : ℕ) (y : A) → slice_get (xs ++ x ∷ []) at ≡ Some y
    → (slice_get xs at ≡ Some y) ⊎ ((at ≡ length xs) × (y ≡ x))
in_push [] x zero y e = inr (refl, cc)
in_push [] x (suc at) y e = absurd cc
in_push (z ∷ zs) x zero y e = inl e
in_push (z ∷ zs) x (suc at) y e =
    elim (in_push zs x at y e) [
      | inl same ↦ inl same
      | inr found ↦ inr (omega (arith, found.0), found.1)
    ]

-- an element of the mapped list comes from one of the list
pub got : {A B : Type 0} (g : A → B) (xs : List A) (at : ℕ) (y : B) → slice_get (map g xs) at ≡ Some y
    → (x : A) × (slice_get xs at ≡ Some x) × (g x ≡ y)
got g [] at y e = absurd cc
got g (x ∷ xs) zero y e = (x, refl, cc)
got g (x ∷ xs) (suc at) y e = got g xs at y e

pub there : {A B : Type 0} (g : A → B) (xs : List A) (at : ℕ) (x : A) → slice_get xs at ≡ Some x
    → slice_get (map g xs) at ≡ Some (g x)
there g [] at x e = absurd cc
there g (z ∷ zs) zero x e = let same : z ≡ x = cc in ap (λ v. Some (g v)) same
there g (z ∷ zs) (suc at) x e = there g zs at x e

pub ended_by_push : (now : ℕ) (old new : List Slot) (slot : Slot) → new ≡ old ++ slot ∷ []
    → slot.state.latest ≡ 0 → AllEndedBy now old → AllEndedBy now new
ended_by_push now old new slot more fresh by at last e =
    elim (in_push old slot at last (ap (λ (slots : List Slot). slice_get slots at) (sym more) ∙ e)) [
      | inl there ↦ by at last there
      | inr found ↦ omega (arith, fresh, ap (λ (s : Slot). s.state.latest) found.1)
    ]
