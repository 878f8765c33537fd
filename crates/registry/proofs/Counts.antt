-- As many uids are known as a map has entries.
use Rattle.std.proofs.Common.{◌≡◌, ◌≢◌, inl, inr, ℕ, suc, ◌≤◌, Bool, true, false, List, [], ◌∷◌, length, map}
use Rattle.std.proofs.Common.{Option, Some, None, IsSome, String, string_bytes, Less, refl, sym, ap, ◌∙◌}
use Rattle.std.proofs.Common.{subst, arith}
use mathlib.Core.Bool.{cond}
use Rattle.std.specs.Cmp.Lexicographic.{slice_cmp}
use Rattle.std.specs.List.{AllByRecursion}
use Rattle.std.specs.List.Sorted.{IsStrictlySortedBy}
use Rattle.std.specs.Map.{keys_of, lookup}
use Rattle.std.specs.Ordering.{is_eq, nat_cmp}
use Rattle.std.specs.Str.{bytes_eq}
use Rattle.std.specs.String.{string_cmp}
use Rattle.std.proofs.lemmas.Slice.Eq.{bytes_eq-Decides}
use Rattle.std.proofs.lemmas.Map.Text.{is_eq-slice_cmp}
use Rattle.registry.specs.declared.known.Known.{Known}
use Rattle.registry.specs.declared.known.Known.TheVariants as known
use Rattle.registry.specs.declared.limits.TheConstants.{MAX_UIDS}
use Rattle.registry.specs.Kept.{by_bytes, known_in, stage_of}
use Rattle.registry.specs.Runtime.{AreDistinct, In, IsKnown}
use Rattle.registry.specs.Serves.{IsFull}

-- the others, without one that is among them
abbrev take_out : {A : Type 0} (x : A) (ys : List A) → In x ys → List A
take_out x [] among = []
take_out x (y ∷ ys) (inl same) = ys
take_out x (y ∷ ys) (inr among) = y ∷ take_out x ys among

fewer : {A : Type 0} (x : A) (ys : List A) (among : In x ys) → suc (length (take_out x ys among)) ≡ length ys
fewer x [] among = elim among [ ]
fewer x (y ∷ ys) (inl same) = refl
fewer x (y ∷ ys) (inr among) = ap suc (fewer x ys among)

stays : {A : Type 0} (x z : A) (ys : List A) (among : In x ys) → z ≢ x → In z ys → In z (take_out x ys among)
stays x z [] among differ is = elim among [ ]
stays x z (y ∷ ys) (inl same) differ (inl is) = absurd (differ (is ∙ sym same))
stays x z (y ∷ ys) (inl same) differ (inr is) = is
stays x z (y ∷ ys) (inr among) differ (inl is) = inl is
stays x z (y ∷ ys) (inr among) differ (inr is) = inr (stays x z ys among differ is)

-- different ones that are all among others are no more than those
pub no_longer : {A : Type 0} (xs ys : List A) → AreDistinct xs → ((x : A) → In x xs → In x ys)
    → length xs ≤ length ys
no_longer [] ys distinct each = omega arith
no_longer (x ∷ xs) ys distinct each =
    let among : In x ys = each x (inl refl) in
    let rest : length xs ≤ length (take_out x ys among) = no_longer xs (take_out x ys among) distinct.1
    (λ z is. stays x z ys among (λ same. distinct.0 (subst (λ w. In w xs) same is)) (each z (inr is))) in
    omega (arith, fewer x ys among)

abbrev names : {Y X : Type 0} → List (String Y × X) → List (List ℕ)
names entries = map (λ e. string_bytes e.0) entries

length_names : {Y X : Type 0} (entries : List (String Y × X)) → length (names entries) ≡ length entries
length_names [] = refl
length_names (e ∷ entries) = ap suc (length_names entries)

clash : (x y : List ℕ) → x ≡ y → slice_cmp nat_cmp x y ≡ Less → ⊥
clash x y same less =
    let equal : is_eq (slice_cmp nat_cmp x y) ≡ true = is_eq-slice_cmp x y ∙ (bytes_eq-Decides x y).1 same in
    cc

apart : {Y X : Type 0} (k : String Y) (entries : List (String Y × X))
    → AllByRecursion (λ y. string_cmp k y ≡ Less) (keys_of entries) → ¬ In (string_bytes k) (names entries)
apart k [] all among = elim among [ ]
apart k (e ∷ entries) all (inl same) = clash (string_bytes k) (string_bytes e.0) same all.0
apart k (e ∷ entries) all (inr among) = apart k entries all.1 among

distinct : {Y X : Type 0} (entries : List (String Y × X)) → IsStrictlySortedBy string_cmp (keys_of entries)
    → AreDistinct (names entries)
unfolding IsStrictlySortedBy
distinct [] sorted = tt
distinct (e ∷ entries) sorted = (apart e.0 entries sorted.0, distinct entries sorted.1)

named_step : {X : Type 0} (b : Bool) (x : X) (rest : Option X) → (b ≡ false → IsSome rest)
    → IsSome (cond b (Some x) rest)
named_step true x rest some = refl
named_step false x rest some = some refl

named : {Y X : Type 0} (entries : List (String Y × X)) (u : List ℕ) → In u (names entries)
    → IsSome (lookup (bytes_eq u) (by_bytes entries))
named [] u among = elim among [ ]
named (e ∷ entries) u (inl same) = subst
    (λ b. IsSome (cond b (Some e.1) (lookup (bytes_eq u) (by_bytes entries))))
    (sym ((bytes_eq-Decides u (string_bytes e.0)).1 same)) refl
named (e ∷ entries) u (inr among) = named_step (bytes_eq u (string_bytes e.0)) e.1
    (lookup (bytes_eq u) (by_bytes entries)) (λ _. named entries u among)

among_step : {Y X : Type 0} (b : Bool) (e : String Y × X) (entries : List (String Y × X)) (u : List ℕ)
    → bytes_eq u (string_bytes e.0) ≡ b
    → (IsSome (lookup (bytes_eq u) (by_bytes entries)) → In u (names entries))
    → IsSome (cond b (Some e.1) (lookup (bytes_eq u) (by_bytes entries))) → In u (names (e ∷ entries))
among_step true e entries u is rest some = inl ((bytes_eq-Decides u (string_bytes e.0)).0 is)
among_step false e entries u is rest some = inr (rest some)

among : {Y X : Type 0} (entries : List (String Y × X)) (u : List ℕ)
    → IsSome (lookup (bytes_eq u) (by_bytes entries)) → In u (names entries)
among [] u some = absurd cc
among (e ∷ entries) u some = among_step (bytes_eq u (string_bytes e.0)) e entries u refl
    (among entries u) some

known_if : (k : Option Known) → IsSome k → IsKnown (stage_of k)
known_if None some = absurd cc
known_if (Some (known.Live live)) some = tt
known_if (Some known.Removed) some = tt

some_if : (k : Option Known) → IsKnown (stage_of k) → IsSome k
some_if None is = elim is [ ]
some_if (Some k) is = refl

pub full : {Y : Type 0} (entries : List (String Y × Known)) → IsStrictlySortedBy string_cmp (keys_of entries)
    → MAX_UIDS ≤ length entries
    → IsFull (λ uid. stage_of (known_in (by_bytes entries) uid))
full entries sorted many = record {
  some = names entries;
  enough = subst (λ n. MAX_UIDS ≤ n) (sym (length_names entries)) many;
  distinct = distinct entries sorted;
  each = λ u is. known_if (known_in (by_bytes entries) u) (named entries u is);
}

pub not_fuller : {Y : Type 0} (entries : List (String Y × Known))
    → IsFull (λ uid. stage_of (known_in (by_bytes entries) uid)) → MAX_UIDS ≤ length entries
not_fuller entries is =
    let no_more : length is.some ≤ length (names entries) = no_longer is.some (names entries) is.distinct
    (λ u m. among entries u (some_if (known_in (by_bytes entries) u) (is.each u m))) in
    omega (arith, length_names entries, is.enough, no_more)
