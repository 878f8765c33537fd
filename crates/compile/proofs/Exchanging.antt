-- Neighbours that return the same may be exchanged.
use Rattle.compile.proofs.Common.{◌≡◌, ℕ, zero, suc, ◌+◌, ◌<◌, add-one, subst, Bool, true, false, cond, List}
use Rattle.compile.proofs.Common.{[], ◌∷◌, length, refl, sym, ap, arith, slice_index_or, slice_set, SysCall}
use Rattle.compile.proofs.Common.{Rule, clauses_hold, first_value}
use Rattle.std.specs.List.{swap}

two_alike : (one other : Bool) (x y rest : ℕ) → x ≡ y
    → cond other y (cond one x rest) ≡ cond one x (cond other y rest)
two_alike true true x y rest same = sym same
two_alike true false x y rest same = refl
two_alike false other x y rest same = refl

pub exchanged : (rules : List Rule) (at : ℕ) (d e f g : Rule) (other : ℕ) (call : SysCall)
    → suc at < length rules → (slice_index_or rules at d).value ≡ (slice_index_or rules (suc at) e).value
    → first_value (slice_set (slice_set rules at (slice_index_or rules (suc at) f)) (suc at)
    (slice_index_or rules at g)) other call ≡ first_value rules other call
exchanged [] at d e f g other call inside same = absurd (omega arith)
exchanged (x ∷ []) at d e f g other call inside same = absurd (omega arith)
exchanged (x ∷ y ∷ rules) zero d e f g other call inside same =
    two_alike (clauses_hold x.clauses.items call) (clauses_hold y.clauses.items call) x.value y.value
    (first_value rules other call) same
exchanged (x ∷ y ∷ rules) (suc at) d e f g other call inside same =
    ap (λ n. cond (clauses_hold x.clauses.items call) x.value n)
    (exchanged (y ∷ rules) at d e f g other call (omega arith) same)

pub swapped : (rules : List Rule) (at : ℕ) (one two : Rule) (other : ℕ) (call : SysCall)
    → at + 1 < length rules
    → (slice_index_or rules at one).value ≡ (slice_index_or rules (at + 1) two).value
    → first_value (swap rules at (at + 1)) other call ≡ first_value rules other call
swapped [] at one two other call inside same = absurd (omega (arith, inside))
swapped (x ∷ rules) at one two other call inside same =
    let next : at + 1 ≡ suc at = add-one at in
    let P : ℕ → Type 0 = λ n. first_value (swap (x ∷ rules) at n) other call
    ≡ first_value (x ∷ rules) other call in
    let Q : ℕ → Type 0 = λ n. (slice_index_or (x ∷ rules) at one).value
    ≡ (slice_index_or (x ∷ rules) n two).value in
    subst P (sym next) (exchanged (x ∷ rules) at one two x x other call (omega (arith, inside))
    (subst Q next same))
