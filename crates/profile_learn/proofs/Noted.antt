-- What is kept, with one more sighting, is what is kept of all sightings with that one at the end.
use Rattle.std.proofs.Common.{◌≡◌, ℕ, ◌<◌, Bool, true, false, ◌||◌, List, [], ◌∷◌, ◌++◌, length, cond, eqb}
use Rattle.std.proofs.Common.{Option, Some, None, append-nil, arith, not, refl, ap, subst, sym, ◌∙◌, ◌&&◌}
use Rattle.std.specs.Prelude.{is_some}
use Rattle.std.specs.List.{cons_option}
use Rattle.std.proofs.lemmas.Grind.{common_steps}
use Rattle.std.proofs.lemmas.List.Folds.{list_any-append}
use Rattle.std.proofs.lemmas.List.Elements.{filter_map-append}
use Rattle.profile_learn.specs.declared.sighting.Sighting.{Sighting}
use Rattle.profile_learn.specs.declared.values.Values.{Values}
use Rattle.profile_learn.specs.declared.values.Values.TheVariants.{Nothing, One, Two, Three, Four, Many}
use Rattle.profile_learn.specs.declared.values.Values.TheVariants.{Unclear}
use Rattle.profile_learn.specs.Kept.{IsKept, IsKeptOf, IsList, list_of, noted, plus, with_option}
use Rattle.profile_learn.specs.Kept.{with_value}
use Rattle.profile_learn.specs.Sightings.{distinct, is_among, is_unclear, lacks_value, value_in, values_seen}
use Rattle.profile_learn.proofs.Distinct.{among_push, distinct_push}

list_again : (kept : List ℕ) (unclear : Bool) (seen : List ℕ) (v : ℕ) → is_among kept v ≡ true
    → IsList kept unclear seen → IsList kept unclear (seen ++ v ∷ [])
list_again kept unclear seen v there is = record {
  clear = is.clear;
  each = record {
    many = grind (arith, common_steps, distinct_push seen v, is.each.many, is.each.same v);
    same = λ w. grind (arith, common_steps, among_push seen v w, is.each.same w);
  };
}

list_more : (kept : List ℕ) (unclear : Bool) (seen : List ℕ) (v : ℕ) → is_among kept v ≡ false
    → IsList kept unclear seen → IsList (kept ++ v ∷ []) unclear (seen ++ v ∷ [])
list_more kept unclear seen v new is = record {
  clear = is.clear;
  each = record {
    many = grind (arith, common_steps, distinct_push seen v, is.each.many, is.each.same v);
    same = λ w. grind (arith, common_steps, among_push seen v w, among_push kept v w, is.each.same w);
  };
}

many_more : (seen : List ℕ) (v : ℕ) → 4 < length (distinct seen) → 4 < length (distinct (seen ++ v ∷ []))
many_more seen v many = grind (arith, common_steps, distinct_push seen v)

fifth : (kept : List ℕ) (unclear : Bool) (seen : List ℕ) (v : ℕ) → is_among kept v ≡ false → length kept ≡ 4
    → IsList kept unclear seen → (unclear ≡ false) × (4 < length (distinct (seen ++ v ∷ [])))
fifth kept unclear seen v new four is =
    (is.clear, grind (arith, common_steps, distinct_push seen v, is.each.many, is.each.same v))

again : (values : Values) (unclear : Bool) (seen : List ℕ) (v : ℕ) → is_among (list_of values) v ≡ true
    → IsKept values unclear seen → IsKept values unclear (seen ++ v ∷ [])
again Nothing unclear seen v there is = list_again [] unclear seen v there is
again (One a) unclear seen v there is = list_again (a ∷ []) unclear seen v there is
again (Two a b) unclear seen v there is = list_again (a ∷ b ∷ []) unclear seen v there is
again (Three a b c) unclear seen v there is = list_again (a ∷ b ∷ c ∷ []) unclear seen v there is
again (Four a b c d) unclear seen v there is = list_again (a ∷ b ∷ c ∷ d ∷ []) unclear seen v there is
again Many unclear seen v there is = (is.0, many_more seen v is.1)
again Unclear unclear seen v there is = is

more : (values : Values) (unclear : Bool) (seen : List ℕ) (v : ℕ) → is_among (list_of values) v ≡ false
    → IsKept values unclear seen → IsKept (plus values v) unclear (seen ++ v ∷ [])
more Nothing unclear seen v new is = list_more [] unclear seen v new is
more (One a) unclear seen v new is = list_more (a ∷ []) unclear seen v new is
more (Two a b) unclear seen v new is = list_more (a ∷ b ∷ []) unclear seen v new is
more (Three a b c) unclear seen v new is = list_more (a ∷ b ∷ c ∷ []) unclear seen v new is
more (Four a b c d) unclear seen v new is = fifth (a ∷ b ∷ c ∷ d ∷ []) unclear seen v new refl is
more Many unclear seen v new is = (is.0, many_more seen v is.1)
more Unclear unclear seen v new is = is

with_keeps : (values : Values) (unclear : Bool) (seen : List ℕ) (v : ℕ)
    → IsKept values unclear seen → IsKept (with_value values v) unclear (seen ++ v ∷ [])
with_keeps values unclear seen v is =
    elim (is_among (list_of values) v) as (λ b. is_among (list_of values) v ≡ b
    → IsKept (cond b values (plus values v)) unclear (seen ++ v ∷ [])) [
      | true ↦ λ among. again values unclear seen v among is
      | false ↦ λ among. more values unclear seen v among is
    ] refl

or_false : (b : Bool) → b ≡ (b || false)
or_false true = refl
or_false false = refl

or_true : (b : Bool) → (b || true) ≡ true
or_true true = refl
or_true false = refl

-- a sighting of this call, or of another one
step : (values : Values) (same : Bool) (value : Option ℕ) (unclear : Bool) (seen : List ℕ)
    → IsKept values unclear seen → IsKept (cond same (with_option values value) values)
    (unclear || (same && not (is_some value))) (seen ++ cons_option (cond same value None) [])
step values false value unclear seen is =
    subst (λ xs. IsKept values (unclear || false) xs) (sym (append-nil seen))
    (subst (λ b. IsKept values b seen) (or_false unclear) is)
step values true None unclear seen is = or_true unclear
step values true (Some v) unclear seen is =
    subst (λ b. IsKept (with_value values v) b (seen ++ v ∷ [])) (or_false unclear)
    (with_keeps values unclear seen v is)

unclear_push : (history : List Sighting) (s : Sighting) (nr : ℕ)
    → is_unclear (history ++ s ∷ []) nr ≡ (is_unclear history nr || lacks_value nr s)
unclear_push history s nr = list_any-append (lacks_value nr) history (s ∷ [])
    ∙ ap (λ b. is_unclear history nr || b) (sym (or_false (lacks_value nr s)))

seen_push : (history : List Sighting) (s : Sighting) (nr : ℕ)
    → values_seen (history ++ s ∷ []) nr ≡ values_seen history nr ++ cons_option (value_in nr s) []
seen_push history s nr = filter_map-append (value_in nr) history (s ∷ [])

pub noted_keeps : (values : Values) (nr : ℕ) (s : Sighting) (history : List Sighting)
    → IsKeptOf values nr history → IsKeptOf (noted values nr s) nr (history ++ s ∷ [])
noted_keeps values nr s history is =
    subst (λ b. IsKept (noted values nr s) b (values_seen (history ++ s ∷ []) nr))
    (sym (unclear_push history s nr))
    (subst (λ xs. IsKept (noted values nr s) (is_unclear history nr || lacks_value nr s) xs)
    (sym (seen_push history s nr))
    (step values (eqb s.number nr) s.value (is_unclear history nr) (values_seen history nr) is))
