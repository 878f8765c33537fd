-- A map by ids, as the list of its entries with their uids.
use Rattle.std.proofs.Common.{◌≡◌, ℕ, ◌==◌, Bool, true, false, List, [], ◌∷◌, Option, Some, None, option_map}
use Rattle.std.proofs.Common.{IsSome, refl, sym, ap, subst, ◌∙◌, rules}
use mathlib.Core.Bool.{cond}
use Rattle.std.specs.BTreeMap as tree
use Rattle.std.specs.BTreeMap.{BTreeMap, is_at}
use Rattle.std.specs.Map.{lookup}
use Rattle.std.specs.Ordering.{is_eq, nat_cmp}
use Rattle.registry.specs.Kept.{IsNextIn, home_in}
use Rattle.runner.specs.Labelled.{homes_of}

same_number : (x y : ℕ) → is_eq (nat_cmp x y) ≡ (x == y)
same_number x y = search (rules)

module _ {X : Type 0} (uid_in : X → List ℕ) where
  found_step : (b d : Bool) (x : X) (r : Option (List ℕ))
      (s : Option (X)) → b ≡ d → r ≡ option_map uid_in s
      → cond b (Some (uid_in x)) r ≡ option_map uid_in (cond d (Some x) s)
  found_step true true x r s e same = refl
  found_step false false x r s e same = same
  found_step true false x r s e same = absurd cc
  found_step false true x r s e same = absurd cc

  pub found_due : (id : ℕ) (entries : List (ℕ × X))
      → home_in (homes_of uid_in entries) id ≡ option_map uid_in (lookup (is_at (nat_cmp id)) entries)
  found_due id [] = refl
  found_due id (e ∷ entries) = found_step (id == e.0) (is_eq (nat_cmp id e.0)) e.1 _ _
      (sym (same_number id e.0)) (found_due id entries)

  mapped : (b : Bool) (w r : Option X)
      → option_map uid_in (cond b w r) ≡ cond b (option_map uid_in w) (option_map uid_in r)
  mapped true w r = refl
  mapped false w r = refl

  pub due_changes : (id : ℕ) (old new : BTreeMap ℕ X) (w : Option X)
      → tree.UpdatesBy nat_cmp (nat_cmp id) old new w
      → (i : ℕ) → home_in (homes_of uid_in new.entries) i ≡ cond (id == i) (option_map uid_in w)
      (home_in (homes_of uid_in old.entries) i)
  due_changes id old new w changes i =
      found_due i new.entries ∙ ap (option_map uid_in) (changes.0 i)
      ∙ mapped (is_eq (nat_cmp id i)) w (lookup (is_at (nat_cmp i)) old.entries)
      ∙ ap (λ b. cond b (option_map uid_in w)
      (option_map uid_in (lookup (is_at (nat_cmp i)) old.entries))) (same_number id i)
      ∙ ap (cond (id == i) (option_map uid_in w)) (sym (found_due i old.entries))

  none_if : (o : Option (X)) → o ≡ None → option_map uid_in o ≡ None
  none_if o none = ap (option_map uid_in) none

  some_if : (o : Option (X)) → IsSome o → IsSome (option_map uid_in o)
  some_if None some = absurd cc
  some_if (Some x) some = refl

  only_if : (o : Option (X)) → IsSome (option_map uid_in o) → IsSome o
  only_if None some = absurd cc
  only_if (Some x) some = refl

  pub next_due : (f : ℕ → Option (X)) (h : ℕ → Option (List ℕ))
      → ((i : ℕ) → h i ≡ option_map uid_in (f i)) → (above : ℕ) (r : Option ℕ) → IsNextIn f above r
      → IsNextIn h above r
  next_due f h same above None next = λ id more. same id ∙ none_if (f id) (next id more)
  next_due f h same above (Some id) next = (
    next.0,
    subst IsSome (sym (same id)) (some_if (f id) next.1),
    λ i more some.
        next.2 i more (only_if (f i) (subst IsSome (same i) some)),
  )
