-- How many views know a part of the runtime.
use Rattle.std.proofs.Common.{◌≡◌, ◌≢◌, ℕ, zero, suc, ◌+◌, ◌≤◌, if◌then◌else◌, List, [], ◌∷◌, ◌++◌}
use Rattle.std.proofs.Common.{set, Option}
use Rattle.std.proofs.Common.{Some, None, refl, sym, ap, ◌∙◌, subst, ⊎_elim, arith}
use mathlib.Core.Option.{some, some-ne-none, some-injective}
use lib.ListN.{get_elem?}
use Rattle.atomic_table.proofs.Lists.{at_set, set_else}
use Rattle.runtime_cell.specs.Cell.{Cell}
use Rattle.runtime_history.specs.declared.room.View.{View}
use Rattle.runtime_history.specs.Agreed.{nobody, once_of, total}
use Rattle.registry.proofs.Texts.{other_text, same_text}

-- the total after one view changed
pub total_set : (f : View → ℕ) (views : List View) (by : ℕ) (v w : View) → get_elem? views by ≡ some v
    → total f (set views by w) + f v ≡ total f views + f w
total_set f [] by v w e = absurd (some-ne-none v (sym e))
total_set f (x ∷ xs) zero v w e = let s : f x ≡ f v = ap f (some-injective x v e) in omega arith
total_set f (x ∷ xs) (suc by) v w e = let t = total_set f xs by v w e in omega arith

pub total_snoc : (f : View → ℕ) (views : List View) (w : View)
    → total f (views ++ w ∷ []) ≡ total f views + f w
total_snoc f [] w = omega arith
total_snoc f (x ∷ xs) w = let t = total_snoc f xs w in omega arith

total_at : (f : View → ℕ) (views : List View) (j : ℕ) (u : View) → get_elem? views j ≡ some u
    → f u ≤ total f views
total_at f [] j u e = absurd (some-ne-none u (sym e))
total_at f (x ∷ xs) zero u e = let s : f x ≡ f u = ap f (some-injective x u e) in omega arith
total_at f (x ∷ xs) (suc j) u e = let t = total_at f xs j u e in omega arith

pub total_none : (f : View → ℕ) (views : List View)
    → ((j : ℕ) (u : View) → get_elem? views j ≡ some u → f u ≡ 0) → total f views ≡ 0
total_none f [] none = refl
total_none f (x ∷ xs) none = let a = none 0 x refl in
    let t = total_none f xs (λ j u e. none (suc j) u e) in omega arith

-- if a part is known at most once, and by this view, no other view knows it
pub alone : (f : View → ℕ) (views : List View) (by j : ℕ) (v u : View) → f nobody ≡ 0
    → total f views ≤ 1 → get_elem? views by ≡ some v → f v ≡ 1
    → j ≢ by → get_elem? views j ≡ some u → f u ≡ 0
alone f views by j v u zeroth most at mine apart there =
    let s = total_set f views by v nobody at in
    let t = total_at f (set views by nobody) j u (set_else views by j nobody apart ∙ there) in
    omega arith

pub once_here : (uid : List ℕ) (cells : List Cell) → once_of uid (Some (uid, cells)) ≡ 1
once_here uid cells = ap (λ b. if b then 1 else 0) (same_text uid)

pub once_apart : (uid u : List ℕ) (cells : List Cell) → once_of u (Some (uid, cells)) ≡ 0 → u ≢ uid
once_apart uid u cells none same =
    let one = once_here uid cells in
    let zero : once_of uid (Some (uid, cells)) ≡ 0 =
    subst (λ (t : List ℕ). once_of t (Some (uid, cells)) ≡ 0) same none in
    absurd (omega arith)

pub lists_none : (uid : List ℕ) (c : Option (List ℕ × List Cell))
    → ((held : List ℕ × List Cell) → c ≡ Some held → uid ≡ held.0 → ⊥) → once_of uid c ≡ 0
lists_none uid None not = refl
lists_none uid (Some held) not = ap (λ b. if b then 1 else 0)
    (other_text uid held.0 (λ same. not held refl (sym same)))

pub fits_set : (P : ℕ → View → Type 0) (views : List View) (by : ℕ) (w : View)
    → ((j : ℕ) (u : View) → j ≢ by → get_elem? views j ≡ some u → P j u) → P by w
    → (j : ℕ) (u : View) → get_elem? (set views by w) j ≡ some u → P j u
fits_set P views by w others mine j u e =
    ⊎_elim
    (λ (x : (j ≡ by) × (w ≡ u)). subst (λ (y : ℕ × View). P y.0 y.1) (λ i. (sym x.0 i, x.1 i)) mine)
    (λ (x : (j ≢ by) × (get_elem? views j ≡ some u)). others j u x.0 x.1)
    (at_set views by j w u e)
