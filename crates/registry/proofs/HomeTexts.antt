-- A map by ids, as the list of its entries.
use Rattle.std.proofs.Common.{◌≡◌, ℕ, ◌==◌, Bool, true, false, List, [], ◌∷◌, Option, Some, None, option_map}
use Rattle.std.proofs.Common.{String, string_bytes, IsSome, ◌<◌, ◌||◌, zero, suc, length, take, refl, sym, ap}
use Rattle.std.proofs.Common.{subst, ◌∙◌, arith}
use mathlib.Core.Bool.{cond}
use Rattle.std.specs.BTreeMap as tree
use Rattle.std.specs.BTreeMap.{BTreeMap, is_at}
use Rattle.std.specs.Map.{lookup}
use Rattle.std.specs.List.{list_any}
use Rattle.std.specs.Prelude.{slice_index_or}
use Rattle.std.specs.Ordering.{is_eq, nat_cmp}
use Rattle.registry.specs.Kept.{IsNextIn, as_bytes, home_in}
use Rattle.registry.proofs.Sames.{same_number}

found_step : {X Z : Type 0} (g : X → Z) (b d : Bool) (x : X) (r : Option Z) (s : Option X) → b ≡ d
    → r ≡ option_map g s → cond b (Some (g x)) r ≡ option_map g (cond d (Some x) s)
found_step g true true x r s e same = refl
found_step g false false x r s e same = same
found_step g true false x r s e same = absurd cc
found_step g false true x r s e same = absurd cc

pub found_home : {Y : Type 0} (id : ℕ) (entries : List (ℕ × String Y))
    → home_in (as_bytes entries) id ≡ option_map string_bytes (lookup (is_at (nat_cmp id)) entries)
found_home id [] = refl
found_home id (e ∷ entries) = found_step string_bytes (id == e.0) (is_eq (nat_cmp id e.0)) e.1 _ _
    (sym (same_number id e.0)) (found_home id entries)

mapped : {X Z : Type 0} (g : X → Z) (b : Bool) (w r : Option X)
    → option_map g (cond b w r) ≡ cond b (option_map g w) (option_map g r)
mapped g true w r = refl
mapped g false w r = refl

pub home_changes : {Y : Type 0} (id : ℕ) (old new : BTreeMap ℕ (String Y)) (w : Option (String Y))
    → tree.UpdatesBy nat_cmp (nat_cmp id) old new w
    → (i : ℕ) → home_in (as_bytes new.entries) i ≡ cond (id == i) (option_map string_bytes w)
    (home_in (as_bytes old.entries) i)
home_changes id old new w changes i =
    found_home i new.entries ∙ ap (option_map string_bytes) (changes.0 i)
    ∙ mapped string_bytes (is_eq (nat_cmp id i)) w (lookup (is_at (nat_cmp i)) old.entries)
    ∙ ap (λ b. cond b (option_map string_bytes w)
    (option_map string_bytes (lookup (is_at (nat_cmp i)) old.entries))) (same_number id i)
    ∙ ap (cond (id == i) (option_map string_bytes w)) (sym (found_home i old.entries))

none_if : {X Z : Type 0} (g : X → Z) (o : Option X) → o ≡ None → option_map g o ≡ None
none_if g o none = ap (option_map g) none

some_if : {X Z : Type 0} (g : X → Z) (o : Option X) → IsSome o → IsSome (option_map g o)
some_if g None some = absurd cc
some_if g (Some x) some = refl

only_if : {X Z : Type 0} (g : X → Z) (o : Option X) → IsSome (option_map g o) → IsSome o
only_if g None some = absurd cc
only_if g (Some x) some = refl

pub next_mapped : {X Z : Type 0} (f : ℕ → Option X) (h : ℕ → Option Z) (g : X → Z)
    → ((i : ℕ) → h i ≡ option_map g (f i)) → (above : ℕ) (r : Option ℕ) → IsNextIn f above r
    → IsNextIn h above r
next_mapped f h g same above None next = λ id more. same id ∙ none_if g (f id) (next id more)
next_mapped f h g same above (Some id) next = (
  next.0,
  subst IsSome (sym (same id)) (some_if g (f id) next.1),
  λ i more some.
      next.2 i more (only_if g (f i) (subst IsSome (same i) some)),
)

or_false : (b : Bool) → (b || false) ≡ (false || b)
or_false true = refl
or_false false = refl

or_assoc : (a b c : Bool) → (a || (b || c)) ≡ ((a || b) || c)
or_assoc true b c = refl
or_assoc false b c = refl

pub any_more : {X : Type 0} (p : X → Bool) (xs : List X) (i : ℕ) (d : X) → i < length xs
    → list_any p (take (suc i) xs) ≡ (list_any p (take i xs) || p (slice_index_or xs i d))
any_more p [] i d inside = absurd (omega arith)
any_more p (x ∷ xs) zero d inside = or_false (p x)
any_more p (x ∷ xs) (suc i) d inside = ap (λ b. p x || b) (any_more p xs i d (omega arith))
    ∙ or_assoc (p x) _ _

pub forgets : {Z : Type 0} (a b : Bool) (h : Option Z) → cond b None (cond a None h) ≡ cond (a || b) None h
forgets true true h = refl
forgets true false h = refl
forgets false true h = refl
forgets false false h = refl
