-- A cell is removed from a list of rising ids.
use Rattle.std.proofs.Common.{◌≡◌, ◌≢◌, ◌↔◌, ◌⊎◌, inl, inr, ℕ, ◌==◌, ◌<◌, ◌≤◌, Bool, true, false, List, []}
use Rattle.std.proofs.Common.{◌∷◌, map, option_map, Option, Some, None, refl, sym, ap, ◌∙◌, subst, arith}
use mathlib.Core.Bool.{cond}
use Rattle.std.specs.List.{find}
use Rattle.std.proofs.lemmas.Bool.{eqb-false, eqb-true, false_from_ne_true}
use Rattle.runtime_cell.specs.Cell.{Cell}
use Rattle.registry.specs.declared.registry.Registry.{Registry}
use Rattle.registry.specs.Kept.{home_in}
use Rattle.registry.specs.Runtime.{In, drop_first, id_of}
use Rattle.registry.specs.Stands.{Agrees, AreBound, IsEmptyIn, Keeps, RiseAbove, stages_in}

pub above : (low : ℕ) (ids : List ℕ) (x : ℕ) → RiseAbove low ids → In x ids → low < x
above low [] x rise among = elim among [ ]
above low (id ∷ ids) x rise (inl same) = subst (λ n. low < n) (sym same) rise.0
above low (id ∷ ids) x rise (inr among) =
    let more : id < x = above id ids x rise.1 among in
    let here : low < id = rise.0 in
    omega arith

lower : (low high : ℕ) (ids : List ℕ) → low ≤ high → RiseAbove high ids → RiseAbove low ids
lower low high [] le rise = tt
lower low high (id ∷ ids) le rise =
    let here : high < id = rise.0 in
    (omega arith, rise.1)

rise_step : (b : Bool) (low : ℕ) (cell : Cell) (cells rest : List Cell)
    → RiseAbove low (map id_of (cell ∷ cells)) → RiseAbove (id_of cell) (map id_of rest)
    → RiseAbove low (map id_of (cond b cells (cell ∷ rest)))
rise_step true low cell cells rest rise more =
    let here : low < id_of cell = rise.0 in
    lower low (id_of cell) (map id_of cells) (omega arith) rise.1
rise_step false low cell cells rest rise more = (rise.0, more)

pub rise_dropped : (test : Cell → Bool) (low : ℕ) (cells : List Cell) → RiseAbove low (map id_of cells)
    → RiseAbove low (map id_of (drop_first test cells))
rise_dropped test low [] rise = rise
rise_dropped test low (cell ∷ cells) rise =
    rise_step (test cell) low cell cells (drop_first test cells) rise
    (rise_dropped test (id_of cell) cells rise.1)

found_step : (b : Bool) (cell : Cell) (rest : Option Cell) (id : ℕ)
    → option_map id_of (cond b (Some cell) rest) ≡ Some id
    → ((b ≡ true) × (id ≡ id_of cell)) ⊎ ((b ≡ false) × (option_map id_of rest ≡ Some id))
found_step true cell rest id is = inl (refl, cc)
found_step false cell rest id is = inr (refl, is)

-- the cells that are left: the others, which have other ids
left_step : (b : Bool) (test : Cell → Bool) (low : ℕ) (cell : Cell) (cells : List Cell) (id x : ℕ)
    → RiseAbove low (map id_of (cell ∷ cells))
    → ((b ≡ true) × (id ≡ id_of cell)) ⊎ ((b ≡ false) × (option_map id_of (find test cells) ≡ Some id))
    → (option_map id_of (find test cells) ≡ Some id
    → In x (map id_of (drop_first test cells)) ↔ (In x (map id_of cells) × (x ≢ id)))
    → (option_map id_of (find test cells) ≡ Some id → In id (map id_of cells))
    → In x (map id_of (cond b cells (cell ∷ drop_first test cells))) ↔ (In x (map id_of (cell ∷ cells))
    × (x ≢ id))
left_step true test low cell cells id x rise (inl is) rest among = (
  (λ left. (inr left, λ same. apart (above (id_of cell) (map id_of cells) x rise.1 left) (same ∙ is.1))),
  λ both. elim both.0 [ inl same ↦ absurd (both.1 (same ∙ sym is.1)) | inr left ↦ left ],
)
  where
    apart : {m n : ℕ} → m < n → n ≡ m → ⊥
    apart less same = omega arith
left_step true test low cell cells id x rise (inr is) rest among = absurd cc
left_step false test low cell cells id x rise (inl is) rest among = absurd cc
left_step false test low cell cells id x rise (inr is) rest among = (
  (λ left. elim left [
    | inl same ↦ (
      inl same,
      λ e. apart (above (id_of cell) (map id_of cells) id rise.1 (among is.1))
          (sym e ∙ same),
    )
    | inr more ↦ (inr ((rest is.1).0 more).0, ((rest is.1).0 more).1)
  ]),
  λ both. elim both.0 [ inl same ↦ inl same | inr more ↦ inr ((rest is.1).1 (more, both.1)) ],
)
  where
    apart : {m n : ℕ} → m < n → n ≡ m → ⊥
    apart less same = omega arith

among_step : (b : Bool) (test : Cell → Bool) (cell : Cell) (cells : List Cell) (id : ℕ)
    → ((b ≡ true) × (id ≡ id_of cell)) ⊎ ((b ≡ false) × (option_map id_of (find test cells) ≡ Some id))
    → (option_map id_of (find test cells) ≡ Some id → In id (map id_of cells))
    → In id (map id_of (cell ∷ cells))
among_step b test cell cells id (inl is) rest = inl is.1
among_step b test cell cells id (inr is) rest = inr (rest is.1)

pub found_in : (test : Cell → Bool) (cells : List Cell) (id : ℕ)
    → option_map id_of (find test cells) ≡ Some id → In id (map id_of cells)
found_in test [] id is = absurd cc
found_in test (cell ∷ cells) id is = among_step (test cell) test cell cells id
    (found_step (test cell) cell (find test cells) id is) (found_in test cells id)

pub left : (test : Cell → Bool) (low : ℕ) (cells : List Cell) (id x : ℕ) → RiseAbove low (map id_of cells)
    → option_map id_of (find test cells) ≡ Some id
    → In x (map id_of (drop_first test cells)) ↔ (In x (map id_of cells) × (x ≢ id))
left test low [] id x rise is = absurd cc
left test low (cell ∷ cells) id x rise is =
    left_step (test cell) test low cell cells id x rise (found_step (test cell) cell (find test cells) id is)
    (λ more. left test (id_of cell) cells id x rise.1 more) (found_in test cells id)

left_of : (b : Bool) (h : Option (List ℕ)) (u : List ℕ) → cond b None h ≡ Some u → (b ≡ false) × (h ≡ Some u)
left_of true h u is = absurd cc
left_of false h u is = (refl, is)

module _ (old new : Registry) (uid : List ℕ) (test : Cell → Bool) (cells : List Cell) (id : ℕ)
    (is : option_map id_of (find test cells) ≡ Some id)
    (made : new.made ≡ old.made) (forgets : (i : ℕ)
    → home_in new.homes i ≡ cond (id == i) None (home_in old.homes i)) where
  was : (i : ℕ) (u : List ℕ) → home_in new.homes i ≡ Some u → ((id == i) ≡ false)
      × (home_in old.homes i ≡ Some u)
  was i u at = left_of (id == i) (home_in old.homes i) u (sym (forgets i) ∙ at)

  stays : (i : ℕ) (u : List ℕ) → i ≢ id → home_in old.homes i ≡ Some u → home_in new.homes i ≡ Some u
  stays i u other at = forgets i ∙ ap (λ b. cond b None (home_in old.homes i))
      (false_from_ne_true (id == i) (λ same. other (sym (eqb-true id i same)))) ∙ at

  pub keeps_dropped : (IsEmptyIn (stages_in old uid) cells
      → IsEmptyIn (stages_in new uid) (drop_first test cells))
      → Keeps old new uid cells (drop_first test cells)
  keeps_dropped empty = record {
    bound = λ bound i u at. subst (λ n. i ≤ n) (sym made) (bound i u (was i u at).1);
    agrees = λ bound agrees. record {
      home = λ i. (
        (λ at. (left test 0 cells id i agrees.rise is).1 (
          (agrees.home i).0 (was i uid at).1,
          λ same.
              eqb-false id i (was i uid at).0 (sym same),
        )),
        λ among. let both = (left test 0 cells id i agrees.rise is).0 among in
            stays i uid both.1 ((agrees.home i).1 both.0),
      );
      rise = rise_dropped test 0 cells agrees.rise;
      empty = empty agrees.empty;
    };
  }

  pub spares_dropped : AreBound old → Agrees old uid cells → (u : List ℕ) → u ≢ uid → (i : ℕ)
      → (home_in new.homes i ≡ Some u) ↔ (home_in old.homes i ≡ Some u)
  spares_dropped bound agrees u other i = (
    (λ at. (was i u at).1),
    λ at. stays i u (λ same. other (some_same (sym at ∙ ap (home_in old.homes) same
        ∙ (agrees.home id).1 (found_in test cells id is)))) at,
  )
    where
      some_same : {a b : List ℕ} → Some a ≡ Some b → a ≡ b
      some_same e = cc
