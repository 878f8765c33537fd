-- Entries that name no call which an entry names decide none of its calls.
use Rattle.std.proofs.Common.{◌≡◌, ℕ, ◌+◌, List, [], ◌∷◌, ◌++◌, ◌&&◌, Bool, true, false, cond, length}
use Rattle.std.proofs.Common.{refl, ap, subst, sym, ◌∙◌, arith}
use Rattle.std.specs.Prelude.{filter, ◌≢◌, ◌==◌, slice_get, Some, Result, Ok, Err, IfOk}
use Rattle.std.specs.declared.alloc.AllocError.{AllocError}
use Rattle.std.specs.List.{list_any}
use Rattle.std.proofs.lemmas.List.Elements.{All-nil, All-cons, All-append, All-drop, All-filter}
use Rattle.std.proofs.lemmas.List.Elements.{All-take}
use Rattle.std.proofs.lemmas.Option.{get_or_from_slice_get, slice_get_within}
use Rattle.std.proofs.lemmas.List.{drop_more, take-append-drop}
use Rattle.call_data.specs.declared.sys_call.SysCall.{SysCall}
use Rattle.call_data.specs.CallData.{IsCall}
use Rattle.oci_profile.specs.declared.decision.Decision.{Decision}
use Rattle.oci_profile.specs.declared.profile.Entry.{Entry}
use Rattle.oci_profile.specs.declared.profile.Profile.{Profile}
use Rattle.oci_profile.specs.Entries.{AreEntries, IsFit}
use Rattle.oci_profile.specs.Meaning.{all_hold, chosen, decision_of, meaning, names}
use Rattle.profile_lint.specs.Entries.{DifferOn, MeanSame, without}
use Rattle.profile_lint.specs.Entries.{before, behind, in_place, turned_entry, with_entries}
use Rattle.profile_lint.specs.Sameness.{IsAround, Says, middle_of, near, shares}
use Rattle.profile_lint.specs.declared.sameness.Sameness.{Sameness}
use Rattle.profile_lint.specs.declared.sameness.Sameness.TheVariants.{Same, Differ, Unknown}
use Rattle.profile_lint.specs.declared.engines.Kind.TheVariants.{Bare, Asking}
use Rattle.profile_lint.specs.Engines.{is_kept, is_of}
use Rattle.profile_lint.specs.declared.entries.Middle.{Middle}
use Rattle.profile_lint.specs.declared.entries.Middle.TheVariants.{Kept, Turned, LeftOut}

-- the other entries decide what the first ones leave open
pub decision_behind : (xs ys : List Entry) (default : Decision) (nr : ℕ) (call : SysCall)
    → decision_of (xs ++ ys) default nr call ≡ decision_of xs (decision_of ys default nr call) nr call
decision_behind [] ys default nr call = refl
decision_behind (x ∷ xs) ys default nr call =
    ap (λ d. cond (names x nr && all_hold x call) x.decision d) (decision_behind xs ys default nr call)

none_any : (numbers : List ℕ) (test : ℕ → Bool) → length numbers ≡ 0 → list_any test numbers ≡ false
none_any [] test none = refl
none_any (n ∷ numbers) test none = absurd cc

any_at : (numbers : List ℕ) (nr : ℕ) (test : ℕ → Bool) → list_any (λ n. n == nr) numbers ≡ true
    → test nr ≡ true → list_any test numbers ≡ true
any_at [] nr test there holds = there
any_at (n ∷ numbers) nr test there holds = grind (arith, any_at numbers nr test)

-- one that names a call of the entry is near it
pub shares_named : (entry other : Entry) (nr : ℕ) → names entry nr ≡ true → names other nr ≡ true
    → shares entry other ≡ true
unfolding names shares
shares_named entry other nr there holds = any_at entry.numbers nr (names other) there holds

near_head : (entry other : Entry) (others : List Entry) (default : Decision) (nr : ℕ) (call : SysCall)
    → names entry nr ≡ true → (is_near : Bool) → shares entry other ≡ is_near
    → (is_named : Bool) → names other nr ≡ is_named
    → decision_of (near entry others) default nr call ≡ decision_of others default nr call
    → decision_of (near entry (other ∷ others)) default nr call ≡ decision_of (other ∷ others) default nr call
near_head entry other others default nr call there true is named has so = rw is (ap
    (λ d. cond (names other nr && all_hold other call) other.decision d) so)
near_head entry other others default nr call there false is false has so = rw (is, has) so
near_head entry other others default nr call there false is true has so =
    let near : shares entry other ≡ true = shares_named entry other nr there has in absurd cc

pub near_decides : (entry : Entry) (others : List Entry) (default : Decision) (nr : ℕ) (call : SysCall)
    → names entry nr ≡ true
    → decision_of (near entry others) default nr call ≡ decision_of others default nr call
near_decides entry [] default nr call there = refl
near_decides entry (other ∷ others) default nr call there =
    near_head entry other others default nr call there _ refl _ refl
    (near_decides entry others default nr call there)

-- entries that leave open what the entry does not name
abbrev pub LeaveOpen : Entry → List Entry → Type 0
LeaveOpen entry entries = (default : Decision) (nr : ℕ) (call : SysCall) → names entry nr ≡ false
    → decision_of entries default nr call ≡ default

-- entries before, in the middle and after; those before and after may be only the near ones
abbrev pub around : Entry → List Entry → List Entry → List Entry → List Entry
around entry xs middle ys = near entry xs ++ (middle ++ near entry ys)

pub around_decides : (entry : Entry) (xs middle ys : List Entry) (default : Decision) (nr : ℕ) (call : SysCall)
    → names entry nr ≡ true
    → decision_of (around entry xs middle ys) default nr call
    ≡ decision_of (xs ++ (middle ++ ys)) default nr call
around_decides entry xs middle ys default nr call there =
    decision_behind (near entry xs) (middle ++ near entry ys) default nr call
    ∙ (near_decides entry xs _ nr call there
    ∙ (ap (λ d. decision_of xs d nr call)
    (decision_behind middle (near entry ys) default nr call
    ∙ (ap (λ d. decision_of middle d nr call) (near_decides entry ys default nr call there)
    ∙ sym (decision_behind middle ys default nr call)))
    ∙ sym (decision_behind xs (middle ++ ys) default nr call)))

open_decides : (entry : Entry) (xs middle ys : List Entry) (default : Decision) (nr : ℕ) (call : SysCall)
    → LeaveOpen entry middle → names entry nr ≡ false
    → decision_of (xs ++ (middle ++ ys)) default nr call ≡ decision_of (xs ++ ys) default nr call
open_decides entry xs middle ys default nr call leaves none =
    decision_behind xs (middle ++ ys) default nr call
    ∙ (ap (λ d. decision_of xs d nr call)
    (decision_behind middle ys default nr call ∙ leaves (decision_of ys default nr call) nr call none)
    ∙ sym (decision_behind xs ys default nr call))

-- a profile's meaning depends only on what its entries decide
pub meaning_by : (profile : Profile) (xs ys : List Entry) (call : SysCall)
    → decision_of xs profile.default call.nr call ≡ decision_of ys profile.default call.nr call
    → meaning (with_entries profile xs) call ≡ meaning (with_entries profile ys) call
unfolding meaning chosen
meaning_by profile xs ys call same = rw same refl

abbrev pub around_in : Profile → Entry → List Entry → List Entry → List Entry → Profile
around_in profile entry xs middle ys = with_entries profile (around entry xs middle ys)

named_same : (profile : Profile) (entry : Entry) (xs middle other ys : List Entry) (call : SysCall)
    → names entry call.nr ≡ true
    → meaning (around_in profile entry xs middle ys) call ≡ meaning (around_in profile entry xs other ys) call
    → meaning (with_entries profile (xs ++ (middle ++ ys))) call
    ≡ meaning (with_entries profile (xs ++ (other ++ ys))) call
named_same profile entry xs middle other ys call there same =
    meaning_by profile (xs ++ (middle ++ ys)) (around entry xs middle ys) call
    (sym (around_decides entry xs middle ys profile.default call.nr call there))
    ∙ (same ∙ meaning_by profile (around entry xs other ys) (xs ++ (other ++ ys)) call
    (around_decides entry xs other ys profile.default call.nr call there))

pub unnamed_same : (profile : Profile) (entry : Entry) (xs middle other ys : List Entry) (call : SysCall)
    → LeaveOpen entry middle → LeaveOpen entry other → names entry call.nr ≡ false
    → meaning (with_entries profile (xs ++ (middle ++ ys))) call
    ≡ meaning (with_entries profile (xs ++ (other ++ ys))) call
unnamed_same profile entry xs middle other ys call one two none =
    meaning_by profile (xs ++ (middle ++ ys)) (xs ++ (other ++ ys)) call
    (open_decides entry xs middle ys profile.default call.nr call one none
    ∙ sym (open_decides entry xs other ys profile.default call.nr call two none))

by_names : (profile : Profile) (entry : Entry) (xs middle other ys : List Entry) (call : SysCall)
    → LeaveOpen entry middle → LeaveOpen entry other
    → meaning (around_in profile entry xs middle ys) call ≡ meaning (around_in profile entry xs other ys) call
    → (named : Bool) → names entry call.nr ≡ named
    → meaning (with_entries profile (xs ++ (middle ++ ys))) call
    ≡ meaning (with_entries profile (xs ++ (other ++ ys))) call
by_names profile entry xs middle other ys call one two same true is =
    named_same profile entry xs middle other ys call is same
by_names profile entry xs middle other ys call one two same false is =
    unnamed_same profile entry xs middle other ys call one two is

-- what is the same with only the near entries is the same with all
pub around_same : (profile : Profile) (entry : Entry) (xs middle other ys : List Entry)
    → LeaveOpen entry middle → LeaveOpen entry other
    → MeanSame (around_in profile entry xs middle ys) (around_in profile entry xs other ys)
    → MeanSame (with_entries profile (xs ++ (middle ++ ys))) (with_entries profile (xs ++ (other ++ ys)))
around_same profile entry xs middle other ys one two same call fits =
    by_names profile entry xs middle other ys call one two (same call fits) _ refl

pub kept_open : (entry : Entry) → LeaveOpen entry (entry ∷ [])
kept_open entry default nr call none = rw none refl

turned_names : (entry : Entry) (nr : ℕ) → names (turned_entry entry) nr ≡ names entry nr
unfolding names
turned_names entry nr = refl

pub turned_open : (entry : Entry) → LeaveOpen entry (turned_entry entry ∷ [])
turned_open entry default nr call none = rw (turned_names entry nr, none) refl

pub left_open : (entry : Entry) → LeaveOpen entry []
left_open entry default nr call none = refl

-- the profile, as the entries before a place, the one at it and those after it
parted : (profile : Profile) (place : ℕ) (entry : Entry) → slice_get profile.entries place ≡ Some entry
    → in_place profile place (entry ∷ []) ≡ profile
parted profile place entry there =
    ap (with_entries profile)
    (ap (λ es. before profile place ++ es)
    (ap (λ e. e ∷ behind profile place)
    (sym (get_or_from_slice_get profile.entries place entry entry there))
    ∙ sym (drop_more profile.entries place entry (slice_get_within profile.entries place entry there)))
    ∙ take-append-drop place profile.entries)

unnamed : (entry : Entry) (nr : ℕ) → length entry.numbers ≡ 0 → names entry nr ≡ false
unfolding names
unnamed entry nr none = none_any entry.numbers (λ n. n == nr) none

-- the entry at a place of a profile is fit
pub fit_at : (es : List Entry) (place : ℕ) (entry : Entry) → AreEntries es → slice_get es place ≡ Some entry
    → IsFit entry
fit_at es place entry fit there =
    subst IsFit (get_or_from_slice_get es place entry entry there)
    (fit place entry (slice_get_within es place entry there))

turned_fit : (entry : Entry) → IsFit entry → IsFit (turned_entry entry)
turned_fit entry fit = record { numbers_fit = fit.numbers_fit; conds_fit = fit.conds_fit }

middle_fit : (entry : Entry) (middle : Middle) → IsFit entry → AreEntries (middle_of entry middle)
middle_fit entry Kept fit = All-cons IsFit entry [] fit (All-nil IsFit)
middle_fit entry Turned fit = All-cons IsFit (turned_entry entry) [] (turned_fit entry fit) (All-nil IsFit)
middle_fit entry LeftOut fit = All-nil IsFit

-- and so are the near ones, with any of these in its place
pub around_fit : (profile : Profile) (place : ℕ) (entry : Entry) (middle : Middle)
    → AreEntries profile.entries
    → slice_get profile.entries place ≡ Some entry
    → AreEntries (around entry (before profile place) (middle_of entry middle) (behind profile place))
around_fit profile place entry middle fit there =
    All-append IsFit (near entry (before profile place))
    (middle_of entry middle ++ near entry (behind profile place))
    (All-filter (shares entry) IsFit (before profile place) (All-take IsFit place profile.entries fit))
    (All-append IsFit (middle_of entry middle) (near entry (behind profile place))
    (middle_fit entry middle (fit_at profile.entries place entry fit there))
    (All-filter (shares entry) IsFit (behind profile place)
    (All-drop IsFit (place + 1) profile.entries fit)))

middle_open : (entry : Entry) (middle : Middle) → LeaveOpen entry (middle_of entry middle)
middle_open entry Kept = kept_open entry
middle_open entry Turned = turned_open entry
middle_open entry LeftOut = left_open entry

-- a result with the near entries, for the whole profile
pub stands_same : (profile : Profile) (place : ℕ) (entry : Entry) (middle : Middle)
    → slice_get profile.entries place ≡ Some entry
    → MeanSame (around_in profile entry (before profile place) (middle_of entry Kept) (behind profile place))
    (around_in profile entry (before profile place) (middle_of entry middle) (behind profile place))
    → MeanSame profile (in_place profile place (middle_of entry middle))
stands_same profile place entry middle there same =
    subst (λ p. MeanSame p (in_place profile place (middle_of entry middle)))
    (parted profile place entry there)
    (around_same profile entry (before profile place) (entry ∷ []) (middle_of entry middle)
    (behind profile place) (kept_open entry) (middle_open entry middle) same)

-- an entry that names no call
pub unnamed_stands : (profile : Profile) (place : ℕ) (entry : Entry)
    → slice_get profile.entries place ≡ Some entry → length entry.numbers ≡ 0
    → MeanSame profile (in_place profile place (turned_entry entry ∷ []))
unnamed_stands profile place entry there none call fits =
    subst (λ p. meaning p call ≡ meaning (in_place profile place (turned_entry entry ∷ [])) call)
    (parted profile place entry there)
    (unnamed_same profile entry (before profile place) (entry ∷ []) (turned_entry entry ∷ [])
    (behind profile place) call (kept_open entry) (turned_open entry) (unnamed entry call.nr none))

back_by_names : (profile : Profile) (entry : Entry) (xs middle other ys : List Entry) (call : SysCall)
    → LeaveOpen entry middle → LeaveOpen entry other
    → meaning (with_entries profile (xs ++ (middle ++ ys))) call
    ≡ meaning (with_entries profile (xs ++ (other ++ ys))) call
    → (named : Bool) → names entry call.nr ≡ named
    → meaning (around_in profile entry xs middle ys) call ≡ meaning (around_in profile entry xs other ys) call
back_by_names profile entry xs middle other ys call one two same true is =
    meaning_by profile (around entry xs middle ys) (xs ++ (middle ++ ys)) call
    (around_decides entry xs middle ys profile.default call.nr call is)
    ∙ (same ∙ meaning_by profile (xs ++ (other ++ ys)) (around entry xs other ys) call
    (sym (around_decides entry xs other ys profile.default call.nr call is)))
back_by_names profile entry xs middle other ys call one two same false is =
    unnamed_same profile entry (near entry xs) middle other (near entry ys) call one two is

-- what differs with only the near entries differs with all
pub stands_differ : (profile : Profile) (place : ℕ) (entry : Entry) (middle : Middle) (call : SysCall)
    → slice_get profile.entries place ≡ Some entry
    → DifferOn (around_in profile entry (before profile place) (middle_of entry Kept) (behind profile place))
    (around_in profile entry (before profile place) (middle_of entry middle) (behind profile place)) call
    → DifferOn profile (in_place profile place (middle_of entry middle)) call
stands_differ profile place entry middle call there differ = (
  differ.0,
  λ same. differ.1
      (back_by_names profile entry (before profile place) (entry ∷ []) (middle_of entry middle)
      (behind profile place) call (kept_open entry) (middle_open entry middle)
      (ap (λ p. meaning p call) (parted profile place entry there) ∙ same) _ refl),
)

-- a result on the profiles of near entries, for the whole profile
says_of : (profile : Profile) (place : ℕ) (entry : Entry) (middle : Middle) (s : Sameness)
    → slice_get profile.entries place ≡ Some entry
    → Says s (around_in profile entry (before profile place) (middle_of entry Kept) (behind profile place))
    (around_in profile entry (before profile place) (middle_of entry middle) (behind profile place))
    → Says s profile (in_place profile place (middle_of entry middle))
says_of profile place entry middle Same there says = stands_same profile place entry middle there says
says_of profile place entry middle (Differ call) there says =
    stands_differ profile place entry middle call there says
says_of profile place entry middle Unknown there says = says

pub says_same : (profile kept other : Profile) (place : ℕ) (entry : Entry) (middle : Middle)
    (found : Result Sameness AllocError) → slice_get profile.entries place ≡ Some entry
    → IsAround profile place entry Kept kept → IsAround profile place entry middle other
    → IfOk found (λ s. Says s kept other)
    → IfOk found (λ s. Says s profile (in_place profile place (middle_of entry middle)))
says_same profile kept other place entry middle (Err fault) there one two says = says
says_same profile kept other place entry middle (Ok s) there one two says =
    says_of profile place entry middle s there
    (subst (λ p. Says s p (around_in profile entry (before profile place) (middle_of entry middle)
    (behind profile place))) one (subst (λ p. Says s kept p) two says))

-- a call that was tried, on which the profiles differ
pub tried_differ : (profile kept other : Profile) (place : ℕ) (entry : Entry) (call : SysCall)
    → slice_get profile.entries place ≡ Some entry
    → IsAround profile place entry Kept kept → IsAround profile place entry LeftOut other
    → IsCall call → (meaning kept call ≢ meaning other call)
    → DifferOn profile (without profile place) call
tried_differ profile kept other place entry call there one two fits differ =
    stands_differ profile place entry LeftOut call there
    (subst (λ p. DifferOn p (around_in profile entry (before profile place) (middle_of entry LeftOut)
    (behind profile place)) call) one (subst (λ p. DifferOn kept p call) two (fits, differ)))

-- the near entries before a place, what replaces the entry there, and the near ones of another list
pub queue_fit : (profile : Profile) (others : List Entry) (place : ℕ) (entry : Entry) (middle : Middle)
    → AreEntries profile.entries → AreEntries others → slice_get profile.entries place ≡ Some entry
    → AreEntries (near entry (before profile place) ++ (middle_of entry middle ++ near entry others))
queue_fit profile others place entry middle fit others_fit there =
    All-append IsFit (near entry (before profile place)) (middle_of entry middle ++ near entry others)
    (All-filter (shares entry) IsFit (before profile place) (All-take IsFit place profile.entries fit))
    (All-append IsFit (middle_of entry middle) (near entry others)
    (middle_fit entry middle (fit_at profile.entries place entry fit there))
    (All-filter (shares entry) IsFit others others_fit))

-- the kept entries of both kinds, one list after the other
pub kept_fit : (profile : Profile) (none bare all entries : List Entry) → entries ≡ profile.entries
    → AreEntries profile.entries → none ≡ []
    → bare ≡ none ++ filter (λ entry. is_kept profile entry && is_of Bare entry) entries
    → all ≡ bare ++ filter (λ entry. is_kept profile entry && is_of Asking entry) entries → AreEntries all
kept_fit profile none bare all entries same fit start first second =
    let fits : AreEntries entries = subst AreEntries (sym same) fit in
    let bare_fits : AreEntries bare = subst AreEntries (sym (first ∙ ap (λ es. es
    ++ filter (λ entry. is_kept profile entry && is_of Bare entry) entries) start))
    (All-filter (λ entry. is_kept profile entry && is_of Bare entry) IsFit entries fits) in
    subst AreEntries (sym second) (All-append IsFit bare
    (filter (λ entry. is_kept profile entry && is_of Asking entry) entries) bare_fits
    (All-filter (λ entry. is_kept profile entry && is_of Asking entry) IsFit entries fits))
