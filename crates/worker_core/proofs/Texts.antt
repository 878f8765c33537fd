-- The uids that were admitted, kept as texts in order.
use Rattle.std.proofs.Common.{◌≡◌, ℕ, ◌+◌, Bool, true, false, ◌||◌, List, [], ◌∷◌, length, map, refl, sym}
use Rattle.std.proofs.Common.{◌∙◌, ap, arith}
use Rattle.std.proofs.lemmas.Map.Text.{is_eq-slice_cmp}
use Rattle.std.specs.List.{list_any}
use Rattle.std.specs.Ordering.{nat_cmp, match_ordering, is_eq}
use Rattle.std.specs.declared.cmp.Ordering.{Ordering}
use Rattle.std.specs.declared.cmp.Ordering.TheVariants.{Less, Equal, Greater}
use Rattle.std.specs.Cmp.Lexicographic.{slice_cmp}
use Rattle.std.specs.Str.{bytes_eq}
use Rattle.std.specs.declared.string.String.{String}
use Rattle.std.specs.String.{string_bytes, string_cmp}
use Rattle.std.specs.BTreeSet.{insert_key}
use Rattle.worker_core.specs.Known.{is_known, with_uid}

pub known_texts : {Y : Type 0} (uid : List ℕ) (ks : List (String Y))
    → list_any (λ (k : String Y). is_eq (slice_cmp nat_cmp uid (string_bytes k))) ks
    ≡ is_known uid (map string_bytes ks)
known_texts uid [] = refl
known_texts uid (k ∷ ks) = λ i. is_eq-slice_cmp uid (string_bytes k) i || known_texts uid ks i

either_way : {X Y : Type 0} (f : X → Y) (o : Ordering) (a b c : X)
    → f (match_ordering o a b c) ≡ match_ordering o (f a) (f b) (f c)
either_way f Less a b c = refl
either_way f Equal a b c = refl
either_way f Greater a b c = refl

pub texts_with : {Y : Type 0} (k : String Y) (ks : List (String Y))
    → map string_bytes (insert_key string_cmp ks k) ≡ with_uid (string_bytes k) (map string_bytes ks)
texts_with k [] = refl
texts_with {Y} k (x ∷ xs) =
    either_way (map string_bytes) (string_cmp k x) (k ∷ x ∷ xs) (x ∷ xs) (x ∷ insert_key string_cmp xs k)
    ∙ ap (λ (rest : List (List ℕ)). match_ordering (string_cmp k x)
    (string_bytes k ∷ string_bytes x ∷ map string_bytes xs) (string_bytes x ∷ map string_bytes xs)
    (string_bytes x ∷ rest)) (texts_with k xs)

or_swap : (a b c : Bool) → (a || (b || c)) ≡ (b || (a || c))
or_swap true true c = refl
or_swap true false c = refl
or_swap false b c = refl

not_first : (a b : Bool) → (a || b) ≡ false → a ≡ false
not_first true b e = absurd cc
not_first false b e = refl

not_rest : (a b : Bool) → (a || b) ≡ false → b ≡ false
not_rest true b e = absurd cc
not_rest false b e = e

-- an order of Equal is an equal text
clash : {P : Type 0} (u x : List ℕ) → slice_cmp nat_cmp u x ≡ Equal → bytes_eq u x ≡ false → P
clash u x same other =
    let is : bytes_eq u x ≡ true = sym (is_eq-slice_cmp u x) ∙ ap is_eq same in
    let differ : true ≡ false = sym is ∙ other in absurd cc

-- one more uid is known, and no other
pub known_with : (q u : List ℕ) (ks : List (List ℕ)) → is_known u ks ≡ false
    → is_known q (with_uid u ks) ≡ (bytes_eq q u || is_known q ks)
known_with q u [] new = refl
known_with q u (x ∷ xs) new = by_order (known_with q u xs (not_rest (bytes_eq u x) (is_known u xs) new))
    (slice_cmp nat_cmp u x) refl where
      by_order : is_known q (with_uid u xs) ≡ (bytes_eq q u || is_known q xs) → (o : Ordering)
          → slice_cmp nat_cmp u x ≡ o
          → is_known q (match_ordering o (u ∷ x ∷ xs) (x ∷ xs) (x ∷ with_uid u xs))
          ≡ (bytes_eq q u || (bytes_eq q x || is_known q xs))
      by_order rest Less e = refl
      by_order rest Equal e = clash u x e (not_first (bytes_eq u x) (is_known u xs) new)
      by_order rest Greater e = ap (λ b. bytes_eq q x || b) rest
          ∙ or_swap (bytes_eq q x) (bytes_eq q u) (is_known q xs)

pub length_with : (u : List ℕ) (ks : List (List ℕ)) → is_known u ks ≡ false
    → length (with_uid u ks) ≡ length ks + 1
length_with u [] new = refl
length_with u (x ∷ xs) new = by_order (length_with u xs (not_rest (bytes_eq u x) (is_known u xs) new))
    (slice_cmp nat_cmp u x) refl where
      by_order : length (with_uid u xs) ≡ length xs + 1 → (o : Ordering) → slice_cmp nat_cmp u x ≡ o
          → length (match_ordering o (u ∷ x ∷ xs) (x ∷ xs) (x ∷ with_uid u xs)) ≡ length (x ∷ xs) + 1
      by_order rest Less e = omega arith
      by_order rest Equal e = clash u x e (not_first (bytes_eq u x) (is_known u xs) new)
      by_order rest Greater e = omega (arith, rest)
