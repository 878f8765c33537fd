-- The rules of the table, by two tests that compute over it: `BY_NAME` has the numbers of the named
-- calls, in the strict order of their names.
use Rattle.std.proofs.Common.{◌≡◌, ◌<◌, ◌≤◌, ℕ, ltb, ◌==◌, true, false, cond, not, ◌||◌, List, [], ◌∷◌}
use Rattle.std.proofs.Common.{length, get_or, slice_index_or, Option, Some, None, Result, refl, subst, arith}
use Rattle.std.specs.Cmp.Lexicographic.{slice_cmp}
use Rattle.std.specs.List.Sorted.{IsBinarySearchResult, IsSearchInRange}
use Rattle.std.specs.Ordering.{nat_cmp}
use Rattle.std.specs.Result.{MatchResult}
use Rattle.std.specs.Str.{bytes_eq}
use Rattle.std.proofs.lemmas.Bool.{and_parts, lt-ltb, ltb-true}
use Rattle.std.proofs.lemmas.List.Quantifiers.{position-Some}
use Rattle.std.proofs.lemmas.Slice.Eq.{bytes_eq-Decides}
use Rattle.std.proofs.lemmas.Cmp.{nat_list_cmp_total}
use Rattle.std.proofs.lemmas.Map.Lookups.{exact_bytes}
use Rattle.sys_table.specs.SysTable.{has_late, if_of, is_of, limit_of, name_in, named, names, number_in}
use Rattle.sys_table.specs.SysTable.{number_of, place_in}
use Rattle.sys_table.specs.declared.calls.CallTable.{CallTable}
use Rattle.sys_table.specs.declared.calls.CallTable.TheVariants.{Linux5_8, Linux6_12}
use Rattle.sys_table.specs.declared.table.TheConstants.{BY_NAME, LATE_NUMBER, NUMBER_LIMIT, TABLE_LIMIT}
use Rattle.sys_table.proofs.Index.{ascends, lists_each, found, searched}

rising : ascends (slice_cmp nat_cmp) nat_list_cmp_total exact_bytes names [] BY_NAME ≡ true
unfolding names
rising = refl

each : lists_each (slice_cmp nat_cmp) nat_list_cmp_total exact_bytes names BY_NAME 0 names ≡ true
unfolding names
each = refl

-- a binary search by name in `BY_NAME` finds the place of the name
pub looked_up : (order name : List ℕ) (r : Result ℕ ℕ) → order ≡ BY_NAME → IsSearchInRange r (length order)
    → IsBinarySearchResult (λ n. slice_cmp nat_cmp (slice_index_or names n []) name) order r
    → MatchResult r (λ at. place_in names name ≡ Some (get_or order at 0)) (λ _. place_in names name ≡ None)
looked_up order name r is_order in_range position =
    searched (slice_cmp nat_cmp) nat_list_cmp_total exact_bytes names order (rw is_order rising)
    (rw is_order each) name r in_range position

-- a name that has a place is the text there
text_there : (name : List ℕ) (number : ℕ) → place_in names name ≡ Some number
    → named (slice_index_or names number []) ≡ Some name
text_there [] number h = cc
text_there (c ∷ cs) number h =
    let at = position-Some (bytes_eq (c ∷ cs)) names number [] h in
    let same : c ∷ cs ≡ slice_index_or names number [] = (bytes_eq-Decides _ _).0 at.1 in
    rw (← same) refl

-- and a text has its place
placed : (number : ℕ) (text name : List ℕ) → slice_index_or names number [] ≡ text → named text ≡ Some name
    → place_in names name ≡ Some number
placed number [] name at h = cc
placed number (c ∷ cs) name at h =
    let same : name ≡ c ∷ cs = cc in
    rw same (found (slice_cmp nat_cmp) nat_list_cmp_total exact_bytes names BY_NAME rising each number c cs
    at)

-- what is one of the calls is in the table
of_table : (calls : CallTable) (at : Option ℕ) (number : ℕ) → if_of calls at ≡ Some number
    → (at ≡ Some number) × (is_of calls number ≡ true)
of_table calls None number h = cc
of_table calls (Some place) number h =
    elim (is_of calls place) as (λ b. is_of calls place ≡ b → cond b (Some place) None ≡ Some number
    → (Some place ≡ Some number) × (is_of calls number ≡ true)) [
      | true ↦ λ is same. let one : place ≡ number = cc in (same, subst (λ n. is_of calls n ≡ true) one is)
      | false ↦ λ is same. cc
    ] refl h

pub named_at : (calls : CallTable) (name : List ℕ) (number : ℕ) → number_in calls name ≡ Some number
    → name_in calls number ≡ Some name
unfolding number_in name_in
named_at calls name number h =
    let found = of_table calls (place_in names name) number h in
    rw found.1 (text_there name number found.0)

pub numbered : (calls : CallTable) (number : ℕ) (name : List ℕ) → name_in calls number ≡ Some name
    → number_in calls name ≡ Some number
unfolding number_in name_in
numbered calls number name h =
    elim (is_of calls number) as (λ b. is_of calls number ≡ b
    → named (cond b (slice_index_or names number []) []) ≡ Some name → number_in calls name ≡ Some number) [
      | true ↦ λ is there. rw (placed number (slice_index_or names number []) name refl there, is) refl
      | false ↦ λ is there. cc
    ] refl h

pub within : (calls : CallTable) (name : List ℕ) (number : ℕ) → number_in calls name ≡ Some number
    → number < limit_of calls
unfolding number_in
within calls name number h =
    let found = of_table calls (place_in names name) number h in
    let parts = and_parts (ltb number (limit_of calls)) (has_late calls || not (number == LATE_NUMBER)) found.1
    in
    ltb-true number (limit_of calls) parts.0

-- later versions keep the calls of earlier ones
pub kept : (name : List ℕ) (number : ℕ) → number_of name ≡ Some number
    → number_in Linux6_12 name ≡ Some number
unfolding number_in
kept name number h =
    let found = of_table Linux5_8 (place_in names name) number h in
    let small : number < NUMBER_LIMIT = within Linux5_8 name number h in
    rw (found.0, lt-ltb number TABLE_LIMIT (omega (arith, small))) refl

limits : (calls : CallTable) → limit_of calls ≤ TABLE_LIMIT
limits Linux5_8 = omega arith
limits Linux6_12 = omega arith

pub in_table : (calls : CallTable) (name : List ℕ) (number : ℕ) → number_in calls name ≡ Some number
    → number < TABLE_LIMIT
in_table calls name number h = omega (arith, within calls name number h, limits calls)
