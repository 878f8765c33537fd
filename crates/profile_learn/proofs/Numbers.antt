-- The numbers below a limit for which a test holds.
use Rattle.std.proofs.Common.{◌≡◌, ℕ, ◌+◌, ◌<◌, ◌≤◌, Bool, true, false, ◌&&◌, ◌||◌, List, [], ◌∷◌, ◌++◌, cond, eqb}
use Rattle.std.proofs.Common.{ltb, map-id, zero, suc, add-one, append-nil, arith, refl, ap, sym, ◌∙◌}
use Rattle.std.specs.Prelude.{filter}
use Rattle.std.specs.List.{range_with_len}
use Rattle.std.proofs.lemmas.Grind.{common_steps}
use Rattle.std.proofs.lemmas.List.Elements.{All-filter}
use Rattle.std.proofs.lemmas.List.Folds.{list_any-append}
use Rattle.std.proofs.lemmas.List.FromFn.{filter_of_map_range_with_len_more, get_or-range_with_len}
use Rattle.std.proofs.lemmas.List.FromFn.{length-range_with_len}
use Rattle.sys_table.specs.declared.table.TheConstants.{TABLE_LIMIT}
use Rattle.oci_profile.specs.Conditions.{AreNumbers}
use Rattle.profile_learn.specs.declared.learned.Learned.{Learned}
use Rattle.profile_learn.specs.declared.learner.Wanted.{Wanted}
use Rattle.profile_learn.specs.Entries.{any_below, takes_any}
use Rattle.profile_learn.specs.Sightings.{is_among}

filter_more : (p : ℕ → Bool) (limit : ℕ) → filter p (range_with_len 0 (limit + 1))
    ≡ filter p (range_with_len 0 limit) ++ cond (p limit) (limit ∷ []) []
filter_more p limit =
    let more = filter_of_map_range_with_len_more p (λ (nr : ℕ). nr) 0 limit limit (omega arith) in
    simp map-id at more

pub any_none : (learned : Learned) (wanted : Wanted) → any_below learned wanted 0 ≡ []
unfolding any_below
any_none learned wanted = refl

any_more : (learned : Learned) (wanted : Wanted) (limit : ℕ) → any_below learned wanted (limit + 1)
    ≡ any_below learned wanted limit ++ cond (takes_any learned wanted limit) (limit ∷ []) []
unfolding any_below
any_more learned wanted limit = filter_more (takes_any learned wanted) limit

-- the next number is one of them, or is not
pub any_taken : (learned : Learned) (wanted : Wanted) (limit : ℕ) (numbers : List ℕ)
    → numbers ≡ any_below learned wanted limit → takes_any learned wanted limit ≡ true
    → numbers ++ limit ∷ [] ≡ any_below learned wanted (limit + 1)
any_taken learned wanted limit numbers so_far is = rw (any_more learned wanted limit, is, so_far) refl

pub any_left : (learned : Learned) (wanted : Wanted) (limit : ℕ) (numbers : List ℕ)
    → numbers ≡ any_below learned wanted limit → takes_any learned wanted limit ≡ false
    → numbers ≡ any_below learned wanted (limit + 1)
any_left learned wanted limit numbers so_far is = rw (any_more learned wanted limit, is, append-nil) so_far

pub any_fit : (learned : Learned) (wanted : Wanted) (limit : ℕ) → limit ≤ TABLE_LIMIT
    → AreNumbers (any_below learned wanted limit)
unfolding any_below
any_fit learned wanted limit short =
    All-filter (takes_any learned wanted) (λ nr. nr < TABLE_LIMIT) (range_with_len 0 limit) (λ k d lt.
    let in_range : k < limit = omega (arith, length-range_with_len 0 limit) in
    omega (arith, get_or-range_with_len 0 limit k d in_range))

among_one : (b : Bool) (limit nr : ℕ) → is_among (cond b (limit ∷ []) []) nr ≡ (b && eqb limit nr)
among_one true limit nr = grind (arith, common_steps)
among_one false limit nr = refl

above : (limit nr : ℕ) (p : ℕ → Bool) → ((ltb nr limit && p nr) || (p limit && eqb limit nr))
    ≡ (ltb nr (limit + 1) && p nr)
above limit nr p = grind (arith, common_steps)

among_filter : (p : ℕ → Bool) (limit nr : ℕ)
    → is_among (filter p (range_with_len 0 limit)) nr ≡ (ltb nr limit && p nr)
among_filter p zero nr = grind (arith, common_steps)
among_filter p (suc limit) nr =
    ap (λ n. is_among (filter p (range_with_len 0 n)) nr) (sym (add-one limit))
    ∙ ap (λ xs. is_among xs nr) (filter_more p limit)
    ∙ list_any-append (λ v. eqb v nr) (filter p (range_with_len 0 limit)) (cond (p limit) (limit ∷ []) [])
    ∙ ap (λ b. is_among (filter p (range_with_len 0 limit)) nr || b) (among_one (p limit) limit nr)
    ∙ ap (λ b. b || (p limit && eqb limit nr)) (among_filter p limit nr)
    ∙ above limit nr p ∙ ap (λ n. ltb nr n && p nr) (add-one limit)

pub among_any : (learned : Learned) (wanted : Wanted) (nr : ℕ)
    → is_among (any_below learned wanted TABLE_LIMIT) nr ≡ (ltb nr TABLE_LIMIT && takes_any learned wanted nr)
unfolding any_below
among_any learned wanted nr = among_filter (takes_any learned wanted) TABLE_LIMIT nr
