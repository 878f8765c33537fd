-- The list decides each call as the profile does.
use Rattle.std.proofs.Common.{◌≡◌, ℕ, ◌+◌, ◌<◌, ◌≤◌, Bool, true, false, not, ◌&&◌, List, [], ◌∷◌, cond, eqb, leb, ltb}
use Rattle.std.proofs.Common.{length, All, Option, Some, None, arith, refl, ap, suc, sym, ◌∙◌}
use Rattle.std.specs.Prelude.{find, position}
use Rattle.std.specs.List.{list_any, position_from}
use Rattle.std.proofs.lemmas.Bool.{ltb-true, ltb-false, ne_eqb}
use Rattle.std.proofs.lemmas.Grind.{common_steps}
use Rattle.std.proofs.lemmas.Iterator.Adapters.{position_from-zero}
use Rattle.call_data.specs.declared.sys_call.SysCall.{SysCall}
use Rattle.sys_table.specs.declared.table.TheConstants.{TABLE_LIMIT}
use Rattle.oci_profile.specs.Conditions.{AreNumbers}
use Rattle.oci_profile.specs.Entries.{AreEntries}
use Rattle.oci_profile.specs.declared.decision.Decision.{Decision}
use Rattle.oci_profile.specs.declared.profile.Entry.{Entry}
use Rattle.oci_profile.specs.declared.profile.Profile.{Profile}
use Rattle.oci_profile.specs.Decision.{value_of}
use Rattle.oci_profile.specs.Meaning.{all_hold, chosen, decision_of, meaning, names}
use Rattle.profile_unit.specs.declared.unit.NamedCall.{NamedCall}
use Rattle.profile_unit.specs.Units.{IsUpTo, decision_in, decision_or, first_named, has_conditions}
use Rattle.profile_unit.proofs.Listed.{beyond}

holds_plainly : (entry : Entry) (call : SysCall) → has_conditions entry ≡ false → all_hold entry call ≡ true
unfolding all_hold
holds_plainly entry call plain = elim entry.conds as (λ conds. entry.conds ≡ conds → all_hold entry call ≡ true) [
  | [] ↦ λ e. rw e refl
  | cond ∷ conds ↦ λ e. absurd (grind (arith, common_steps, plain, e))
] refl

plain_from : (entries : List Entry) (at : ℕ) (default : Decision) (nr : ℕ) (call : SysCall)
    → position_from has_conditions at entries ≡ None
    → decision_of entries default nr call ≡ first_named entries default nr
plain_from [] at default nr call none = refl
plain_from (entry ∷ entries) at default nr call none =
    let plain : has_conditions entry ≡ false = grind (arith, common_steps, none) in
    let others : position_from has_conditions (at + 1) entries ≡ None = grind (arith, common_steps, none, plain) in
    let later = plain_from entries (at + 1) default nr call others in
    elim (names entry nr) as (λ b. names entry nr ≡ b
    → decision_of (entry ∷ entries) default nr call ≡ first_named (entry ∷ entries) default nr) [
      | true ↦ λ e. rw (e, holds_plainly entry call plain) refl
      | false ↦ λ e. rw e later
    ] refl

plain_is : (entries : List Entry) (default : Decision) (nr : ℕ) (call : SysCall)
    → position has_conditions entries ≡ None
    → decision_of entries default nr call ≡ first_named entries default nr
plain_is entries default nr call none =
    plain_from entries 0 default nr call (sym (position_from-zero has_conditions entries) ∙ none)

any_small : (numbers : List ℕ) (nr : ℕ) → AreNumbers numbers → TABLE_LIMIT ≤ nr
    → list_any (λ number. eqb number nr) numbers ≡ false
any_small [] nr small far = refl
any_small (number ∷ numbers) nr small far =
    let near : number < TABLE_LIMIT = small 0 number (omega arith) in
    rw (ne_eqb number nr (λ e. absurd (omega (arith, e, near, far))))
    (any_small numbers nr (λ k d lt. small (suc k) d (omega (arith, lt))) far)

-- no entry names a number beyond the table
pub none_beyond : (entries : List Entry) (default : Decision) (nr : ℕ) → AreEntries entries → TABLE_LIMIT ≤ nr
    → first_named entries default nr ≡ default
unfolding names
none_beyond [] default nr fit far = refl
none_beyond (entry ∷ entries) default nr fit far =
    rw (any_small entry.numbers nr (fit 0 entry (omega arith)).numbers_fit far)
    (none_beyond entries default nr (λ k d lt. fit (suc k) d (omega (arith, lt))) far)

all_decided : (entries : List Entry) (default : Decision) (calls : List NamedCall) (nr : ℕ) → AreEntries entries
    → IsUpTo entries default TABLE_LIMIT calls
    → value_of (decision_in calls default nr) ≡ value_of (first_named entries default nr)
all_decided entries default calls nr fit whole = elim (ltb nr TABLE_LIMIT) as (λ b. ltb nr TABLE_LIMIT ≡ b
    → value_of (decision_in calls default nr) ≡ value_of (first_named entries default nr)) [
      | true ↦ λ e. whole.decided nr (ltb-true nr TABLE_LIMIT e)
      | false ↦ λ e. let far = ltb-false nr TABLE_LIMIT e in
          ap value_of (beyond calls default TABLE_LIMIT nr whole.within far
          ∙ sym (none_beyond entries default nr fit far))
    ] refl

-- no call is listed, so the default decides each
pub all_by_default : (entries : List Entry) (default : Decision) (calls : List NamedCall) → AreEntries entries
    → IsUpTo entries default TABLE_LIMIT calls → length calls ≡ 0 → (nr : ℕ)
    → value_of (first_named entries default nr) ≡ value_of default
all_by_default entries default [] fit whole none nr = sym (all_decided entries default [] nr fit whole)
all_by_default entries default (call ∷ calls) fit whole none nr = absurd cc

pub means : (profile : Profile) (calls : List NamedCall) → AreEntries profile.entries
    → position has_conditions profile.entries ≡ None
    → IsUpTo profile.entries profile.default TABLE_LIMIT calls → (call : SysCall)
    → call.arch ≡ 0xc000003e → call.nr < 0x40000000
    → meaning profile call ≡ value_of (decision_in calls profile.default call.nr)
unfolding meaning chosen
means profile calls fit plain whole call native small =
    let not_x32 : leb 0x40000000 call.nr ≡ false = grind (arith, common_steps, small) in
    let is_native : eqb call.arch 0xc000003e ≡ true = grind (arith, common_steps, native) in
    rw (is_native, not_x32) (ap value_of (plain_is profile.entries profile.default call.nr call plain)
    ∙ sym (all_decided profile.entries profile.default calls call.nr fit whole))
