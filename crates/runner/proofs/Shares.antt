-- The least id of a share is the first id of all that is of the share.
use Rattle.std.proofs.Common.{arith, ◌≡◌, ◌==◌, ◌%◌, ◌<◌, ℕ, Bool, true, false, if◌then◌else◌, IsSome, Option}
use Rattle.std.proofs.Common.{None, Some, ◌⊎◌, inl, inr, refl, sym, subst}
use Rattle.std.proofs.Math.Nat.{eq-or-lt_of_le}
use Rattle.registry.specs.Kept.{IsNextIn}
use Rattle.runner.specs.Labelled.{Passed, of_share}

of_both : {A : Type 0} (own : Bool) (x : Option A) → IsSome (if own then x else None) → IsSome x
of_both true x some = some
of_both false x some = absurd cc

own_is : {A : Type 0} (own : Bool) (x : Option A) → own ≡ true → IsSome x → IsSome (if own then x else None)
own_is true x is some = some
own_is false x is some = absurd cc

not_own : {A : Type 0} (own : Bool) (x : Option A) → own ≡ false → IsSome (if own then x else None) → ⊥
not_own true x is some = cc
not_own false x is some = cc

is_none : {A : Type 0} (x : Option A) → (IsSome x → ⊥) → x ≡ None
is_none None none = refl
is_none (Some x) none = absurd (none refl)

not_some : {A : Type 0} (x : Option A) → x ≡ None → IsSome x → ⊥
not_some None is some = cc
not_some (Some x) is some = cc

module _ {A : Type 0} (runner runners : ℕ) (home : ℕ → Option A) where
  abbrev share : ℕ → Option A
  share = of_share runner runners home

  pub next_is_own : (above last id : ℕ) → Passed share above last → IsNextIn home last (Some id)
      → (id % runners == runner) ≡ true → IsNextIn share above (Some id)
  next_is_own above last id passed next own = (
    (let step = next.0 in let low = passed.0 in omega arith),
    own_is (id % runners == runner) (home id) own next.1,
    λ i after some. next.2 i (passed.1 i after some) (of_both (i % runners == runner) (home i) some),
  )

  pub next_is_none : (above last : ℕ) → Passed share above last → IsNextIn home last None
      → IsNextIn share above None
  next_is_none above last passed next i after =
      is_none (share i) (λ some. not_some (home i) (next i (passed.1 i after some))
      (of_both (i % runners == runner) (home i) some))

  -- an id of the share is not this one
  behind : (id i : ℕ) → (id % runners == runner) ≡ false → IsSome (share i) → (id ≡ i) ⊎ (id < i) → id < i
  behind id i other some (inl same) = absurd
      (not_own (id % runners == runner) (home id) other (subst (λ j. IsSome (share j)) (sym same) some))
  behind id i other some (inr after) = after

  pub next_is_passed : (above last id : ℕ) → Passed share above last → IsNextIn home last (Some id)
      → (id % runners == runner) ≡ false → Passed share above id
  next_is_passed above last id passed next other = (
    (let step = next.0 in let low = passed.0 in omega arith),
    λ i after some. behind id i other some
        (eq-or-lt_of_le (next.2 i (passed.1 i after some) (of_both (i % runners == runner) (home i) some))),
  )
