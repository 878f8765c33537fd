-- Rows of entries, from what is known where they are made.
use Rattle.std.proofs.Common.{◌≡◌, ℕ, suc, ◌+◌, ◌<◌, ◌≤◌, Some, Bool, true, false, List, [], ◌∷◌, ◌++◌}
use Rattle.std.proofs.Common.{length, refl, sym, ap, subst, arith, ◌∙◌}
use Rattle.std.specs.Prelude.{slice_get, slice_index_or}
use Rattle.std.proofs.lemmas.Option.{slice_get-get_or, slice_get_within}
use Rattle.call_data.specs.declared.sys_call.SysCall.{SysCall}
use Rattle.sys_table.specs.SysTable.{limit_of}
use Rattle.sys_table.specs.declared.calls.CallTable.{CallTable}
use Rattle.sys_table.specs.declared.calls.CallTable.TheVariants.{Linux5_8, Linux6_12}
use Rattle.sys_table.specs.declared.table.TheConstants.{TABLE_LIMIT}
use Rattle.oci_profile.specs.declared.conditions.Cond.{Cond}
use Rattle.oci_profile.specs.declared.profile.Entry.{Entry}
use Rattle.oci_profile.specs.declared.profile.Profile.{Profile}
use Rattle.oci_profile.specs.Decision.{value_of}
use Rattle.oci_profile.specs.Meaning.{all_hold, all_of, names}
use Rattle.explain.specs.declared.explanation.Decider.TheVariants as by
use Rattle.explain.specs.Explained.{applies}
use Rattle.profile_table.specs.Rows.{IsDecidedBy, IsOn, IsRowOf, named_at, named_below}

-- an entry before this place names the number
pub record HasNamed (entries : List Entry) (nr end : ℕ) : Type 0 where
  pub place : ℕ
  pub entry : Entry
  pub there : slice_get entries place ≡ Some entry
  pub before : place < end
  pub named : names entry nr ≡ true

-- no entry before this place names the number
abbrev pub NoneNames : List Entry → ℕ → ℕ → Type 0
NoneNames entries nr end = (k : ℕ) (other : Entry) → k < end → slice_get entries k ≡ Some other
    → names other nr ≡ false

-- an entry that does not name the number does not apply
not_named : (call : SysCall) (other : Entry) (nr : ℕ) → call.nr ≡ nr → names other nr ≡ false
    → applies call other ≡ false
not_named call other nr same none = rw same (rw none refl)

none_hold : (conds : List Cond) (call : SysCall) → length conds ≡ 0 → all_of conds call ≡ true
none_hold [] call none = refl
none_hold (cond ∷ conds) call none = absurd (omega arith)

holds : (entry : Entry) (call : SysCall) → length entry.conds ≡ 0 → all_hold entry call ≡ true
unfolding all_hold
holds entry call none = none_hold entry.conds call none

-- every call is one of the table
within_table : (calls : CallTable) (nr : ℕ) → nr < limit_of calls → nr < TABLE_LIMIT
within_table Linux5_8 nr inside = omega (arith, inside)
within_table Linux6_12 nr inside = inside

-- an entry without conditions decides what no entry before it does
decides_there : (profile : Profile) (nr place : ℕ) (entry : Entry) → nr < TABLE_LIMIT
    → slice_get profile.entries place ≡ Some entry → names entry nr ≡ true → length entry.conds ≡ 0
    → (call : SysCall) → IsOn nr call
    → ((k : ℕ) (other : Entry) → k < place → slice_get profile.entries k ≡ Some other
    → applies call other ≡ false)
    → IsDecidedBy profile call (by.Entry place) (value_of entry.decision)
decides_there profile nr place entry inside there named bare call is before = record {
  decision = entry.decision;
  decides = (
    (is.0, omega (arith, is.1, inside)),
    record {
      entry = entry;
      there = there;
      named = ap (λ n. names entry n) is.1 ∙ named;
      holds = holds entry call bare;
      decides = refl;
      before = before;
    },
  );
  value_is = refl;
}

pub entry_row : (calls : CallTable) (profile : Profile) (nr place : ℕ) (entry : Entry) (is_asked : Bool)
    (value : ℕ) → nr < limit_of calls → slice_get profile.entries place ≡ Some entry → names entry nr ≡ true
    → length entry.conds ≡ 0
    → value ≡ value_of entry.decision
    → (is_asked ≡ false → NoneNames profile.entries nr place)
    → (is_asked ≡ true → HasNamed profile.entries nr place)
    → IsRowOf calls profile (record {
      nr = nr;
      is_asked = is_asked;
      decider = by.Entry place;
      value = value;
    })
entry_row calls profile nr place entry is_asked value inside there named bare value_is none some =
    let decides : (call : SysCall) → IsOn nr call
    → ((k : ℕ) (other : Entry) → k < place → slice_get profile.entries k ≡ Some other
    → applies call other ≡ false) → IsDecidedBy profile call (by.Entry place) value = λ call is before.
    subst (IsDecidedBy profile call (by.Entry place)) (sym value_is)
    (decides_there profile nr place entry (within_table calls nr inside) there named bare call is before) in
    record {
      inside = inside;
      placed = slice_get_within profile.entries place entry there;
      decides = decides;
      alike = λ not call is. decides call is
          (λ k other below at. not_named call other nr is.1 (none not k other below at));
      asked = λ yes. let one = some yes in record {
        place = one.place;
        entry = one.entry;
        there = one.there;
        before = one.before;
        named = one.named;
      };
    }

-- the default decides what no entry does
pub default_row : (calls : CallTable) (profile : Profile) (nr end : ℕ) (is_asked : Bool) (value : ℕ)
    → nr < limit_of calls → length profile.entries ≤ end → value ≡ value_of profile.default
    → (is_asked ≡ false → NoneNames profile.entries nr end)
    → (is_asked ≡ true → HasNamed profile.entries nr end)
    → IsRowOf calls profile (record {
      nr = nr;
      is_asked = is_asked;
      decider = by.Default;
      value = value;
    })
default_row calls profile nr end is_asked value inside whole value_is none some = record {
  inside = inside;
  placed = tt;
  decides = λ call is before. record {
    decision = profile.default;
    decides = ((is.0, omega (arith, is.1, within_table calls nr inside)), (λ k other at. before k other tt at), refl);
    value_is = sym value_is;
  };
  alike = λ not call is. record {
    decision = profile.default;
    decides = (
      (is.0, omega (arith, is.1, within_table calls nr inside)),
      (λ k other at. not_named call other nr is.1
          (none not k other (omega (arith, whole, slice_get_within profile.entries k other at)) at)),
      refl,
    );
    value_is = sym value_is;
  };
  asked = λ yes. let one = some yes in record {
    place = one.place;
    entry = one.entry;
    there = one.there;
    before = tt;
    named = one.named;
  };
}

-- no call is below 0, and one more below the next number if a call has this one
pub named_zero : (calls : CallTable) → named_below calls 0 ≡ []
unfolding named_below
named_zero calls = refl

pub named_more : (calls : CallTable) (nr : ℕ)
    → named_below calls (nr + 1) ≡ named_below calls nr ++ named_at calls nr
unfolding named_below
named_more calls nr = let e : nr + 1 ≡ suc nr = omega arith in rw e refl

-- an item of a list that is there
pub item_at : (entries items : List Entry) (place : ℕ) (entry : Entry) → items ≡ entries
    → place < length items → slice_index_or items place entry ≡ entry → slice_get entries place ≡ Some entry
item_at entries items place entry same inside is =
    rw (sym same) (slice_get-get_or items place entry inside ∙ ap Some is)
