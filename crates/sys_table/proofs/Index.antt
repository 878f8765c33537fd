-- A table of texts, and a list of places in it in the order of their texts.
use Rattle.std.proofs.Common.{◌≡◌, ◌≢◌, ℕ, zero, suc, ◌+◌, ◌<◌, Bool, true, ◌&&◌, nat_eq, List, [], ◌∷◌}
use Rattle.std.proofs.Common.{length, get_or, Some, None, Result, Ok, Err, refl, sym, ap, ◌∙◌, inl, inr}
use Rattle.std.proofs.Common.{arith, eqb-true}
use Rattle.std.specs.Str.{bytes_eq}
use Rattle.std.specs.List.{list_any}
use Rattle.std.specs.Result.{MatchResult}
use Rattle.std.specs.List.Sorted.{IsBinarySearchResult, IsSearchInRange, IsNonDecreasingBy}
use Rattle.std.specs.Ordering.{is_lt, ordering_index, ordering_reverse}
use Rattle.std.specs.declared.cmp.Ordering.{Ordering}
use Rattle.std.specs.declared.cmp.Ordering.TheVariants.{Less, Equal, Greater}
use Rattle.std.specs.Cmp.{IsTotalOrder}
use Rattle.std.proofs.lemmas.Bool.{and_parts, cases_lt, cases_order, false_from_ne_true, cond-true}
use Rattle.std.proofs.lemmas.Bool.{cond-false, lt-ltb, le-ltb}
use Rattle.std.proofs.lemmas.Cmp.{tied_itself}
use Rattle.std.proofs.lemmas.List.{get_or_default, get_or_past}
use Rattle.std.proofs.lemmas.List.Folds.{Any-from_list_any}
use Rattle.std.proofs.lemmas.List.Sorted.{searchable_from_sorted}
use Rattle.std.proofs.lemmas.List.Sums.{position_or_len_is}
use Rattle.std.proofs.lemmas.Map.Lookups.{CmpEqualImpliesEq}
use Rattle.std.proofs.lemmas.Slice.Eq.{bytes_eq-Decides}
use Rattle.sys_table.specs.SysTable.{place_in}

less : (o : Ordering) → is_lt o ≡ true → o ≡ Less
less Less h = refl
less Equal h = cc
less Greater h = cc

-- R is an order of texts, and a table has texts at places
module _ (R : List ℕ → List ℕ → Ordering) (total : IsTotalOrder R) (exact : CmpEqualImpliesEq R)
    (table : List (List ℕ)) where
  abbrev pub text : ℕ → List ℕ
  text place = get_or table place []

  -- `before` is below the first text, and each text below the next
  abbrev pub ascends : List ℕ → List ℕ → Bool
  ascends before [] = true
  ascends before (n ∷ ns) = is_lt (R before (text n)) && ascends (text n) ns

  -- the order lists each place from n on that has a text
  abbrev pub lists_each : List ℕ → ℕ → List (List ℕ) → Bool
  lists_each order n [] = true
  lists_each order n ([] ∷ rest) = lists_each order (suc n) rest
  lists_each order n ((c ∷ cs) ∷ rest) = list_any (nat_eq n) order && lists_each order (suc n) rest

  -- each text is above all those before it
  first_below : (before : List ℕ) (ns : List ℕ) (j d : ℕ) → ascends before ns ≡ true → j < length ns
      → R before (text (get_or ns j d)) ≡ Less
  first_below before [] j d h lt = absurd (omega arith)
  first_below before (n ∷ ns) zero d h lt = less _ (and_parts _ _ h).0
  first_below before (n ∷ ns) (suc j) d h lt =
      let parts = and_parts (is_lt (R before (text n))) (ascends (text n) ns) h in
      total.trans _ _ _ (less _ parts.0) (first_below (text n) ns j d parts.1 (omega arith))

  rises : (before ns : List ℕ) (i j d : ℕ) → ascends before ns ≡ true → i < j → j < length ns
      → R (text (get_or ns i d)) (text (get_or ns j d)) ≡ Less
  rises before [] i j d h lt in_range = absurd (omega arith)
  rises before (n ∷ ns) i zero d h lt in_range = absurd (omega arith)
  rises before (n ∷ ns) zero (suc j) d h lt in_range =
      first_below (text n) ns j d (and_parts _ _ h).1 (omega arith)
  rises before (n ∷ ns) (suc i) (suc j) d h lt in_range =
      rises (text n) ns i j d (and_parts _ _ h).1 (omega arith) (omega arith)

  -- a place with a text is listed
  is_listed : (order : List ℕ) (xs : List (List ℕ)) (n i c : ℕ) (cs : List ℕ) → lists_each order n xs ≡ true
      → get_or xs i [] ≡ c ∷ cs → list_any (nat_eq (n + i)) order ≡ true
  is_listed order [] n i c cs h e = cc
  is_listed order ([] ∷ rest) n zero c cs h e = cc
  is_listed order ((d ∷ ds) ∷ rest) n zero c cs h e = let same : n + 0 ≡ n = omega arith in
      rw same (and_parts _ _ h).0
  is_listed order ([] ∷ rest) n (suc i) c cs h e = let same : n + suc i ≡ suc n + i = omega arith in
      rw same (is_listed order rest (suc n) i c cs h e)
  is_listed order ((d ∷ ds) ∷ rest) n (suc i) c cs h e = let same : n + suc i ≡ suc n + i = omega arith in
      rw same (is_listed order rest (suc n) i c cs (and_parts _ _ h).1 e)

  not_below_itself : (x : List ℕ) → R x x ≡ Less → ⊥
  not_below_itself x h = let tied = tied_itself total x in cc

  module _ (order : List ℕ) (rising : ascends [] order ≡ true) (each : lists_each order 0 table ≡ true) where
    -- where it is listed
    listed_at : (n c : ℕ) (cs : List ℕ) → text n ≡ c ∷ cs → (k : ℕ) × (k < length order)
        × (get_or order k 0 ≡ n)
    listed_at n c cs e =
        let same : 0 + n ≡ n = omega arith in
        let found = Any-from_list_any (nat_eq n) order (rw (← same) (is_listed order table 0 n c cs each e))
        in (
          found.0,
          found.2,
          get_or_default order found.0 0 found.1 found.2 ∙ found.3
              ∙ sym (eqb-true _ _ found.4),
        )

    -- no two places have the same text
    apart : (x : List ℕ) (i j : ℕ) → i < j → j < length order → text (get_or order i 0) ≡ x
        → text (get_or order j 0) ≡ x → ⊥
    apart x i j lt in_range at_i at_j = let below = rises [] order i j 0 rising lt in_range in
        not_below_itself x (cc)

    one_place : (m n c : ℕ) (cs : List ℕ) → text m ≡ c ∷ cs → text n ≡ c ∷ cs → m ≡ n
    one_place m n c cs at_m at_n =
        let (j, j_in, j_is) = listed_at m c cs at_m in
        let (k, k_in, k_is) = listed_at n c cs at_n in
        let at_j : text (get_or order j 0) ≡ c ∷ cs = ap text j_is ∙ at_m in
        let at_k : text (get_or order k 0) ≡ c ∷ cs = ap text k_is ∙ at_n in
        elim (cases_order j k) [
          | inl same ↦ cc
          | inr (inl lt) ↦ absurd (apart (c ∷ cs) j k lt k_in at_j at_k)
          | inr (inr lt) ↦ absurd (apart (c ∷ cs) k j lt j_in at_k at_j)
        ]

    -- a look-up finds a text at its place
    pub found : (n c : ℕ) (cs : List ℕ) → text n ≡ c ∷ cs → place_in table (c ∷ cs) ≡ Some n
    found n c cs e = elim (cases_lt n (length table)) [
      | inr past ↦ let nothing = get_or_past table n [] past in cc
      | inl in_range ↦
          let here = position_or_len_is (bytes_eq (c ∷ cs)) table n [] (omega arith)
          (λ k lt. false_from_ne_true _ (λ yes.
          omega (arith, one_place k n c cs (sym ((bytes_eq-Decides _ _).0 yes)) e)))
          (λ _. (bytes_eq-Decides _ _).1 (sym e)) in
          rw here (cond-true _ _ _ (lt-ltb n (length table) in_range))
    ]

    -- and a text that is at no place is not found
    pub absent : (c : ℕ) (cs : List ℕ) → ((n : ℕ) → text n ≢ c ∷ cs) → place_in table (c ∷ cs) ≡ None
    absent c cs none =
        let here = position_or_len_is (bytes_eq (c ∷ cs)) table (length table) [] (omega arith)
        (λ k lt. false_from_ne_true _ (λ yes. none k (sym ((bytes_eq-Decides _ _).0 yes))))
        (λ lt. absurd (omega arith)) in
        rw here (cond-false _ _ _ (le-ltb (length table) (length table) (omega arith)))

    -- the comparisons with a name rise along the order, as a binary search requires
    searchable : (name : List ℕ) → IsNonDecreasingBy (λ n. ordering_index (R (text n) name)) order
    searchable name = searchable_from_sorted total text order name (λ k d _ lt.
        ap is_lt (total.antisymm _ _ ∙ ap ordering_reverse
        (rises [] order k (k + 1) d rising (omega arith) lt)))

    -- a binary search in the order finds what a look-up finds
    pub searched : (name : List ℕ) (r : Result ℕ ℕ) → IsSearchInRange r (length order)
        → IsBinarySearchResult (λ n. R (text n) name) order r
        → MatchResult r (λ at. place_in table name ≡ Some (get_or order at 0))
        (λ _. place_in table name ≡ None)
    searched [] (Ok at) in_range tied = absurd
        (not_below_itself [] (ap (R []) (sym (exact _ _ (tied 0)))
        ∙ first_below [] order at 0 rising in_range))
    searched (c ∷ cs) (Ok at) in_range tied = found (get_or order at 0) c cs (exact _ _ (tied 0))
    searched [] (Err at) in_range parted = refl
    searched (c ∷ cs) (Err at) in_range parted = absent c cs (λ n e.
        let (k, k_in, k_is) = listed_at n c cs e in
        let tied : R (text (get_or order k 0)) (c ∷ cs) ≡ Equal = ap (λ t. R t (c ∷ cs)) (ap text k_is ∙ e)
        ∙ tied_itself total (c ∷ cs) in
        let point = parted (searchable (c ∷ cs)) in
        elim (cases_lt k at) [
          | inl lt ↦ let below = point.0 k 0 (omega arith) lt in cc
          | inr ge ↦ let above = point.1 k 0 ge k_in in cc
        ])
