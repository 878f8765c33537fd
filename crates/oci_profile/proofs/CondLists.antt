-- Lists of conditions on arguments, no two on the same.
use Rattle.std.proofs.Common.{◌≡◌, ◌≢◌, ℕ, zero, suc, ◌<◌, List, [], ◌∷◌, ◌++◌, ◌||◌, length, map, get_or}
use Rattle.std.proofs.Common.{eqb, Bool, true, false, refl, sym, ap, subst, ◌∙◌, arith}
use Rattle.std.specs.Prelude.{All, AllPairs}
use Rattle.std.specs.List.{list_any}
use Rattle.std.proofs.lemmas.Bool.{eqb-true, eqb-false, eq-eqb, ne_eqb}
use Rattle.std.proofs.lemmas.List.{get_or-map, length-append, length-map}
use Rattle.std.proofs.lemmas.List.Elements.{All-cons, All-nil, All-push}
use Rattle.std.proofs.lemmas.List.Folds.{Any-from_list_any, list_any_none}
use Rattle.std.proofs.lemmas.List.Quantifiers.{all_pairs_push}
use Rattle.std.proofs.lemmas.Map.Made.{IsDistinct-from_AllPairs}
use Rattle.std.proofs.lemmas.Map.Steps.{length-le_from_distinct_below}
use Rattle.std.proofs.Math.ListN.{get_or-append}
use Rattle.std.proofs.Math.Seq.{get_or-append_seam}
use Rattle.oci_profile.specs.declared.conditions.Cond.{Cond}
use Rattle.oci_profile.specs.declared.conditions.Op.TheVariants.{Equal}
use Rattle.oci_profile.specs.Conditions.{AreConds}
use Rattle.oci_profile.specs.Reading.{is_tested}

-- in range, and on different arguments
abbrev pub AreApart : List Cond → Type 0
AreApart conds = All (λ cond. cond.index < 6) conds × AllPairs (λ one other. one.index ≢ other.index) conds

neither : (x y : Bool) → (x || y) ≡ false → (x ≡ false) × (y ≡ false)
neither true y h = absurd cc
neither false y h = (refl, h)

any_at : {X : Type 0} (p : X → Bool) (xs : List X) (k : ℕ) (d : X) → list_any p xs ≡ false → k < length xs
    → p (get_or xs k d) ≡ false
any_at p [] k d h lt = absurd (omega arith)
any_at p (x ∷ xs) zero d h lt = (neither _ _ h).0
any_at p (x ∷ xs) (suc k) d h lt = any_at p xs k d (neither _ _ h).1 (omega arith)

pub apart_push : (done : List Cond) (cond : Cond) → AreApart done → cond.index < 6
    → is_tested done cond.index ≡ false → AreApart (done ++ cond ∷ [])
unfolding is_tested
apart_push done cond apart small new = (
  All-push (λ (c : Cond). c.index < 6) done cond apart.0 small,
  all_pairs_push (λ (one other : Cond). one.index ≢ other.index) done cond apart.1 (λ k d lt same.
      eqb-false _ _ (any_at (λ (c : Cond). eqb c.index cond.index) done k d new lt) same),
)

-- a condition after others is on another argument
pub apart_at : (done : List Cond) (cond : Cond) (rest : List Cond) → AreApart (done ++ cond ∷ rest)
    → (cond.index < 6) × (is_tested done cond.index ≡ false)
unfolding is_tested
apart_at done cond rest apart =
    let within : length done < length (done ++ cond ∷ rest) = simp length-append (omega arith) in
    let seam : (d : Cond) → get_or (done ++ cond ∷ rest) (length done) d ≡ cond =
    get_or-append_seam done cond rest in
    let small : cond.index < 6 = subst (λ (c : Cond). c.index < 6) (seam cond)
    (apart.0 (length done) cond within) in
    let differs : (k : ℕ) (d : Cond) → k < length done → eqb (get_or done k d).index cond.index ≡ false =
    λ k d lt.
    ne_eqb _ _ (λ same. apart.1 k (length done) d lt within
    (ap (λ (c : Cond). c.index) (get_or-append done (cond ∷ rest) d k lt) ∙ same
    ∙ ap (λ (c : Cond). c.index) (sym (seam d))))
    in
    (small, list_any_none (λ (c : Cond). eqb c.index cond.index) done differs)

some_cond : Cond
some_cond = record { index = 0; op = Equal; value = 0; value_two = 0 }

-- at most six different numbers are below 6
pub apart_conds : (conds : List Cond) → AreApart conds → AreConds conds
apart_conds conds apart =
    let indices : List ℕ = map (λ (c : Cond). c.index) conds in
    let same_length : length indices ≡ length conds = length-map conds (λ (c : Cond). c.index) in
    let at : (k d : ℕ) → k < length conds → get_or indices k d ≡ (get_or conds k some_cond).index = λ k d lt.
    get_or-map (λ (c : Cond). c.index) conds k some_cond d lt in
    let differ : AllPairs (λ (x y : ℕ). x ≢ y) indices = λ i j d lt in_range same.
    apart.1 i j some_cond lt (omega arith) (sym (at i d (omega arith)) ∙ same ∙ at j d (omega arith))
    in
    let small : (q : ℕ) → list_any (eqb q) indices ≡ true → q < 6 = λ q there.
    let found = Any-from_list_any (eqb q) indices there in
    let below = apart.0 found.0 some_cond (omega arith) in
    omega (arith, below, at found.0 found.1 (omega arith), found.3, eqb-true _ _ found.4)
    in
    let few = length-le_from_distinct_below indices 6
    (IsDistinct-from_AllPairs (λ a b. (eqb-true a b, eq-eqb a b)) indices differ) small in
    record { in_range = apart.0; apart = apart.1; few = omega (arith, few, same_length) }

-- one condition is on another argument than no other
pub one_fits : (cond : Cond) → cond.index < 6 → AreConds (cond ∷ [])
one_fits cond small = apart_conds (cond ∷ []) (
  All-cons (λ (c : Cond). c.index < 6) cond [] small (All-nil (λ (c : Cond). c.index < 6)),
  λ i j d lt in_range. absurd (omega arith),
)

pub none_fit : AreConds []
none_fit = apart_conds [] (λ k d lt. absurd (omega arith), λ i j d lt in_range. absurd (omega arith))
