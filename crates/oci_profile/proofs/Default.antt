-- The entries of the profile RuntimeDefault keep the rules of a profile's type.
use Rattle.std.proofs.Common.{◌≡◌, ℕ, ◌+◌, ◌<◌, ◌≤◌, List, [], ◌∷◌, ◌++◌, length, cond, map, map-id}
use Rattle.std.proofs.Common.{append-nil, true, false, Option, Some, None, codes, refl, arith}
use Rattle.std.specs.List.{cons_option, range_with_len}
use Rattle.std.proofs.lemmas.List.Elements.{All-nil, All-cons, All-filter}
use Rattle.std.proofs.lemmas.List.Sums.{count_by-le-length, length-filter}
use Rattle.std.proofs.lemmas.List.FromFn.{filter_of_map_range_with_len_more, get_or-range_with_len}
use Rattle.std.proofs.lemmas.List.FromFn.{length-range_with_len}
use Rattle.sys_table.specs.SysTable.{number_of}
use Rattle.sys_table.specs.declared.calls.CallTable.TheVariants.{Linux5_8}
use Rattle.sys_table.specs.declared.table.TheConstants.{NUMBER_LIMIT, TABLE_LIMIT}
use Rattle.oci_profile.specs.declared.conditions.Cond.{Cond}
use Rattle.oci_profile.specs.declared.decision.Decision.{Decision}
use Rattle.oci_profile.specs.declared.profile.Entry.{Entry}
use Rattle.oci_profile.specs.Conditions.{AreConds, AreNumbers}
use Rattle.oci_profile.specs.Entries.{IsFit, AreEntries}
use Rattle.oci_profile.specs.Meaning.{weight}
use Rattle.oci_profile.specs.RuntimeDefault.{allowed_below, allowed_entry, clone3_entry, clone_entry}
use Rattle.oci_profile.specs.RuntimeDefault.{default_entries, entry_named, is_allowed, personalities}
use Rattle.oci_profile.specs.RuntimeDefault.{personality_entry, runtime_default}
use Rattle.oci_profile.proofs.CondLists.{none_fit, one_fits}
use Rattle.oci_profile.proofs.Fits.{AreSmall, one_number_fits}

pub allowed_none : allowed_below 0 ≡ []
unfolding allowed_below
allowed_none = refl

allowed_more : (limit : ℕ) → allowed_below (limit + 1) ≡ allowed_below limit
    ++ cond (is_allowed limit) (limit ∷ []) []
unfolding allowed_below
allowed_more limit =
    let more = filter_of_map_range_with_len_more is_allowed (λ (nr : ℕ). nr) 0 limit limit (omega arith) in
    simp map-id at more

-- the next number is one of them, or is not
pub allowed_taken : (limit : ℕ) (numbers : List ℕ) → numbers ≡ allowed_below limit → is_allowed limit ≡ true
    → numbers ++ limit ∷ [] ≡ allowed_below (limit + 1)
allowed_taken limit numbers so_far is = rw (allowed_more limit, is, so_far) refl

pub allowed_left : (limit : ℕ) (numbers : List ℕ) → numbers ≡ allowed_below limit → is_allowed limit ≡ false
    → numbers ≡ allowed_below (limit + 1)
allowed_left limit numbers so_far is = rw (allowed_more limit, is, append-nil) so_far

pub allowed_fit : (limit : ℕ) → limit ≤ NUMBER_LIMIT → AreNumbers (allowed_below limit)
unfolding allowed_below
allowed_fit limit short = All-filter is_allowed (λ nr. nr < TABLE_LIMIT) (range_with_len 0 limit) (λ k d lt.
    let in_range : k < limit = omega (arith, length-range_with_len 0 limit) in
    omega (arith, get_or-range_with_len 0 limit k d in_range))

named_fits : AreSmall Linux5_8 → (name : List ℕ) (decision : Decision) (conds : List Cond) → AreConds conds
    → IsFit (entry_named name decision conds)
unfolding entry_named
named_fits small name decision conds fit =
    record { numbers_fit = one_number_fits Linux5_8 small name; conds_fit = fit }

persona_fits : AreSmall Linux5_8 → (persona : ℕ) → IsFit (personality_entry persona)
persona_fits small persona = named_fits small _ _ _ (one_fits _ (omega arith))

allowed_entry_fits : IsFit allowed_entry
unfolding allowed_entry
allowed_entry_fits = record { numbers_fit = allowed_fit NUMBER_LIMIT (omega arith); conds_fit = none_fit }

personas_fit : AreSmall Linux5_8 → (personas : List ℕ) (rest : List Entry) → AreEntries rest
    → AreEntries (map personality_entry personas ++ rest)
personas_fit small [] rest fit = fit
personas_fit small (persona ∷ personas) rest fit =
    All-cons IsFit (personality_entry persona) (map personality_entry personas ++ rest)
    (persona_fits small persona) (personas_fit small personas rest fit)

pub default_fit : AreSmall Linux5_8 → AreEntries default_entries
unfolding default_entries
default_fit small =
    let last : List Entry = allowed_entry ∷ [] in
    let others : List Entry = map personality_entry personalities ++ last in
    All-cons IsFit clone3_entry (clone_entry ∷ others) (named_fits small _ _ _ none_fit)
    (All-cons IsFit clone_entry others (named_fits small _ _ _ (one_fits _ (omega arith)))
    (personas_fit small personalities last
    (All-cons IsFit allowed_entry [] allowed_entry_fits (All-nil IsFit))))

-- no number occurs twice, so the last entry has fewer than the table
few_allowed : (limit : ℕ) → length (allowed_below limit) ≤ limit
unfolding allowed_below
few_allowed limit = omega (
  arith,
  length-filter is_allowed (range_with_len 0 limit),
  count_by-le-length is_allowed (range_with_len 0 limit),
  length-range_with_len 0 limit,
)

one_number : (number : Option ℕ) → length (cons_option number []) ≤ 1
one_number None = omega arith
one_number (Some number) = omega arith

pub default_light : weight runtime_default ≤ 3620
unfolding weight default_entries personalities entry_named allowed_entry
default_light = omega (
  arith,
  few_allowed NUMBER_LIMIT,
  one_number (number_of (codes "clone3")),
  one_number (number_of (codes "clone")),
  one_number (number_of (codes "personality")),
)
