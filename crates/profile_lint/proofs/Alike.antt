-- How engines read entries, by what they decide.
use Rattle.std.proofs.Common.{◌≡◌, ℕ, zero, suc, ◌<◌, List, [], ◌∷◌, ◌++◌, ◌&&◌, ◌||◌, Bool, true, false}
use Rattle.std.proofs.Common.{refl, ap, sym, ◌∙◌, arith, length, take}
use Rattle.std.specs.Prelude.{filter, ◌==◌, slice_get, Some, nat_le}
use Rattle.std.specs.List.{list_any}
use Rattle.call_data.specs.declared.sys_call.SysCall.{SysCall}
use Rattle.explain.specs.Explained.{AppliesFirst, IsJudged, applies}
use Rattle.oci_profile.specs.declared.decision.Decision.{Decision}
use Rattle.oci_profile.specs.declared.profile.Entry.{Entry}
use Rattle.oci_profile.specs.declared.profile.Profile.{Profile}
use Rattle.oci_profile.specs.Decision.{value_of}
use Rattle.oci_profile.specs.Meaning.{all_hold, chosen, decision_of, meaning, names}
use Rattle.profile_lint.specs.Entries.{MeanSame, before, with_entries}
use Rattle.profile_lint.specs.Engines.{IsApart, ReadsAlike}
use Rattle.profile_lint.specs.Engines.{as_engines_read, is_kept_of, kept_of}
use Rattle.profile_lint.specs.Readings.{in_queue}
use Rattle.profile_lint.specs.Sameness.{near, shares}
use Rattle.profile_lint.specs.declared.engines.Kind.TheVariants.{Asking, Bare}
use Rattle.profile_lint.proofs.Near.{around_decides, decision_behind, meaning_by, near_decides, shares_named}

-- an entry that does not apply leaves the decision to those after it
passed : (entry : Entry) (entries : List Entry) (default : Decision) (call : SysCall)
    → applies call entry ≡ false
    → decision_of (entry ∷ entries) default call.nr call ≡ decision_of entries default call.nr call
passed entry entries default call fails = rw fails refl

-- one that applies decides
taken : (entry : Entry) (entries : List Entry) (default : Decision) (call : SysCall)
    → applies call entry ≡ true → decision_of (entry ∷ entries) default call.nr call ≡ entry.decision
taken entry entries default call holds = rw holds refl

both : (a b : Bool) → a ≡ true → b ≡ true → (a && b) ≡ true
both true b h g = g
both false b h g = absurd cc

first_false : (a b : Bool) → (a || b) ≡ false → a ≡ false
first_false true b h = h
first_false false b h = refl

rest_false : (a b : Bool) → (a || b) ≡ false → b ≡ false
rest_false true b h = absurd cc
rest_false false b h = h

first_true : (a b : Bool) → (a && b) ≡ true → a ≡ true
first_true true b h = refl
first_true false b h = absurd cc

-- entries of which none applies leave the decision open
pub none_open : (entries : List Entry) (default : Decision) (call : SysCall)
    → list_any (applies call) entries ≡ false → decision_of entries default call.nr call ≡ default
none_open [] default call none = refl
none_open (entry ∷ entries) default call none =
    passed entry entries default call (first_false (applies call entry) (list_any (applies call) entries) none)
    ∙ none_open entries default call (rest_false (applies call entry) (list_any (applies call) entries) none)

-- the entries before the first that applies leave the decision open
before_open : (entries : List Entry) (place : ℕ) (default : Decision) (call : SysCall)
    → ((k : ℕ) (other : Entry) → k < place → slice_get entries k ≡ Some other → applies call other ≡ false)
    → decision_of (take place entries) default call.nr call ≡ default
before_open entries zero default call none = refl
before_open [] (suc place) default call none = refl
before_open (entry ∷ entries) (suc place) default call none =
    passed entry (take place entries) default call (none 0 entry (omega arith) refl)
    ∙ before_open entries place default call (λ k other below there. none (suc k) other (omega arith) there)

-- the first entry that applies decides
first_decides : (entries : List Entry) (place : ℕ) (default decision : Decision) (call : SysCall)
    → AppliesFirst entries call place decision → decision_of entries default call.nr call ≡ decision
first_decides [] place default decision call first = absurd cc
first_decides (here ∷ entries) zero default decision call first =
    let same : here ≡ first.entry = cc (first.there) in
    rw same (rw (both _ _ first.named first.holds) first.decides)
first_decides (here ∷ entries) (suc place) default decision call first =
    passed here entries default call (first.before 0 here (omega arith) refl)
    ∙ first_decides entries place default decision call (record {
      entry = first.entry;
      there = first.there;
      named = first.named;
      holds = first.holds;
      decides = first.decides;
      before = λ k other below there. first.before (suc k) other (omega arith) there;
    })

filter_head : (test : Entry → Bool) (here : Entry) (entries : List Entry) (default : Decision) (call : SysCall)
    → applies call here ≡ false → (is : Bool) → test here ≡ is
    → decision_of (filter test (here ∷ entries)) default call.nr call
    ≡ decision_of (filter test entries) default call.nr call
filter_head test here entries default call fails true is = rw is (passed here (filter test entries) default call fails)
filter_head test here entries default call fails false is = rw is refl

-- the first that applies is also the first of those that pass a test, if it passes
first_of_filter : (test : Entry → Bool) (entries : List Entry) (place : ℕ) (entry : Entry) (default : Decision)
    (call : SysCall) → slice_get entries place ≡ Some entry → test entry ≡ true → applies call entry ≡ true
    → ((k : ℕ) (other : Entry) → k < place → slice_get entries k ≡ Some other → applies call other ≡ false)
    → decision_of (filter test entries) default call.nr call ≡ entry.decision
first_of_filter test [] place entry default call there passes holds none = absurd cc
first_of_filter test (here ∷ entries) zero entry default call there passes holds none =
    let same : here ≡ entry = cc (there) in
    rw same (rw passes (taken entry (filter test entries) default call holds))
first_of_filter test (here ∷ entries) (suc place) entry default call there passes holds none =
    filter_head test here entries default call (none 0 here (omega arith) refl) _ refl
    ∙ first_of_filter test entries place entry default call there passes holds
    (λ k other below at. none (suc k) other (omega arith) at)

-- an entry without conditions that engines have decides the same calls for them
pub bare_alike : (profile : Profile) (place : ℕ) (entry : Entry) → slice_get profile.entries place ≡ Some entry
    → is_kept_of Bare profile entry ≡ true → ReadsAlike profile place
bare_alike profile place entry there kept call values fits otherwise =
    let first = otherwise.decides in
    let same : first.entry ≡ entry = cc (first.there, there) in
    let theirs = decision_behind (kept_of Bare profile) (kept_of Asking profile) profile.default call.nr call
    ∙ first_of_filter (is_kept_of Bare profile) profile.entries place first.entry
    (decision_of (kept_of Asking profile) profile.default call.nr call) call first.there
    (ap (is_kept_of Bare profile) same ∙ kept) (both _ _ first.named first.holds) first.before in
    let ours = first_decides profile.entries place profile.default otherwise.decision call first in
    otherwise.differ (sym otherwise.ours
    ∙ (meaning_by profile profile.entries (kept_of Bare profile ++ kept_of Asking profile) call
    (ours ∙ (sym first.decides ∙ sym theirs)) ∙ otherwise.theirs))

none_any : (numbers : List ℕ) (test : ℕ → Bool) → length numbers ≡ 0 → list_any test numbers ≡ false
none_any [] test none = refl
none_any (n ∷ numbers) test none = absurd cc

-- an entry without names decides nothing
pub unnamed_alike : (profile : Profile) (place : ℕ) (entry : Entry)
    → slice_get profile.entries place ≡ Some entry → length entry.numbers ≡ 0 → ReadsAlike profile place
unfolding names
unnamed_alike profile place entry there none call values fits otherwise =
    let first = otherwise.decides in
    let same : first.entry ≡ entry = cc (first.there, there) in
    let fails = none_any first.entry.numbers (λ n. n == call.nr) (ap (λ e. length e.numbers) same ∙ none) in
    let holds = first.named in absurd cc

queue_decides : (entry : Entry) (xs middle ys : List Entry) (default : Decision) (call : SysCall)
    → names entry call.nr ≡ true
    → ((d : Decision) → decision_of xs d call.nr call ≡ d)
    → decision_of (near entry xs ++ (middle ++ near entry ys)) default call.nr call
    ≡ decision_of (middle ++ ys) default call.nr call
queue_decides entry xs middle ys default call named leaves =
    around_decides entry xs middle ys default call.nr call named
    ∙ (decision_behind xs (middle ++ ys) default call.nr call
    ∙ leaves (decision_of (middle ++ ys) default call.nr call))

-- if the entry's place in the queue does not matter, engines read it alike
pub queue_alike : (profile engines : Profile) (place : ℕ) (entry : Entry)
    → engines ≡ as_engines_read profile → slice_get profile.entries place ≡ Some entry
    → MeanSame (in_queue profile engines place entry (entry ∷ [])) (in_queue profile engines place entry [])
    → ReadsAlike profile place
queue_alike profile engines place entry is there alike call values fits otherwise =
    let first = otherwise.decides in
    let same : first.entry ≡ entry = cc (first.there, there) in
    let named : names entry call.nr ≡ true = ap (λ e. names e call.nr) (sym same) ∙ first.named in
    let holds : applies call entry ≡ true =
    ap (λ e. applies call e) (sym same) ∙ both _ _ first.named first.holds in
    let leaves : (d : Decision) → decision_of (before profile place) d call.nr call ≡ d =
    λ d. before_open profile.entries place d call first.before in
    let ours = first_decides profile.entries place profile.default otherwise.decision call first
    ∙ (sym first.decides ∙ ap (λ e. e.decision) same) in
    let kept = queue_decides entry (before profile place) (entry ∷ []) engines.entries profile.default call
    named leaves ∙ taken entry engines.entries profile.default call holds in
    let dropped = queue_decides entry (before profile place) [] engines.entries profile.default call named leaves in
    otherwise.differ (sym otherwise.ours
    ∙ (meaning_by profile profile.entries
    (near entry (before profile place) ++ ((entry ∷ []) ++ near entry engines.entries)) call (ours ∙ sym kept)
    ∙ (alike call fits
    ∙ (meaning_by profile (near entry (before profile place) ++ near entry engines.entries)
    engines.entries call dropped
    ∙ (ap (λ p. meaning (with_entries profile p.entries) call) is ∙ otherwise.theirs)))))

-- the profile's value for a call of x86-64
meaning_is : (profile : Profile) (entries : List Entry) (decision : Decision) (call : SysCall) → IsJudged call
    → decision_of entries profile.default call.nr call ≡ decision
    → meaning (with_entries profile entries) call ≡ value_of decision
unfolding meaning chosen
meaning_is profile entries decision call judged is =
    let native : (call.arch == 0xc000003e) ≡ true = grind (arith, judged.0) in
    let low : nat_le 0x40000000 call.nr ≡ false = grind (arith, judged.1) in
    rw native (rw low (ap value_of is))

pair_decides : (profile : Profile) (entry one two : Entry) (entries : List Entry) (call : SysCall)
    → names entry call.nr ≡ true → applies call one ≡ true → list_any (applies call) entries ≡ false
    → decision_of (near entry entries ++ (one ∷ two ∷ [])) profile.default call.nr call ≡ one.decision
pair_decides profile entry one two entries call named holds leaves =
    decision_behind (near entry entries) (one ∷ two ∷ []) profile.default call.nr call
    ∙ (near_decides entry entries _ call.nr call named
    ∙ (none_open entries _ call leaves ∙ taken one (two ∷ []) profile.default call holds))

-- if the order of two entries does not matter, they do not overlap
pub pair_apart : (profile : Profile) (place second : ℕ) (one two : Entry)
    → slice_get profile.entries place ≡ Some one → slice_get profile.entries second ≡ Some two
    → MeanSame (with_entries profile (near one (kept_of Bare profile) ++ (one ∷ two ∷ [])))
    (with_entries profile (near one (kept_of Bare profile) ++ (two ∷ one ∷ [])))
    → IsApart profile place second
pair_apart profile place second one two one_there two_there alike call fits lap =
    let one_is : lap.one ≡ one = cc (lap.one_there, one_there) in
    let two_is : lap.two ≡ two = cc (lap.two_there, two_there) in
    let holds : applies call one ≡ true = ap (λ e. applies call e) (sym one_is) ∙ lap.both.0 in
    let other : applies call two ≡ true = ap (λ e. applies call e) (sym two_is) ∙ lap.both.1 in
    let named : names one call.nr ≡ true = first_true (names one call.nr) (all_hold one call) holds in
    let bare = kept_of Bare profile in
    lap.both.2 (ap (λ e. value_of e.decision) one_is
    ∙ (sym (meaning_is profile (near one bare ++ (one ∷ two ∷ [])) one.decision call lap.judged
    (pair_decides profile one one two bare call named holds lap.unsettled))
    ∙ (alike call fits
    ∙ (meaning_is profile (near one bare ++ (two ∷ one ∷ [])) two.decision call lap.judged
    (pair_decides profile one two one bare call named other lap.unsettled)
    ∙ ap (λ e. value_of e.decision) (sym two_is)))))

-- entries of which engines lack one, or one has no condition, do not overlap
pub unkept_apart : (profile : Profile) (place second : ℕ) (one two : Entry)
    → slice_get profile.entries place ≡ Some one → slice_get profile.entries second ≡ Some two
    → (is_kept_of Asking profile one && is_kept_of Asking profile two) ≡ false → IsApart profile place second
unkept_apart profile place second one two one_there two_there lacks call fits lap =
    let one_is : lap.one ≡ one = cc (lap.one_there, one_there) in
    let two_is : lap.two ≡ two = cc (lap.two_there, two_there) in
    let asks = both _ _ (ap (is_kept_of Asking profile) (sym one_is) ∙ lap.one_asks)
    (ap (is_kept_of Asking profile) (sym two_is) ∙ lap.two_asks) in absurd cc

-- entries that share no call do not overlap
pub unshared_apart : (profile : Profile) (place second : ℕ) (one two : Entry)
    → slice_get profile.entries place ≡ Some one → slice_get profile.entries second ≡ Some two
    → shares one two ≡ false → IsApart profile place second
unshared_apart profile place second one two one_there two_there lacks call fits lap =
    let one_is : lap.one ≡ one = cc (lap.one_there, one_there) in
    let two_is : lap.two ≡ two = cc (lap.two_there, two_there) in
    let holds : applies call one ≡ true = ap (λ e. applies call e) (sym one_is) ∙ lap.both.0 in
    let other : applies call two ≡ true = ap (λ e. applies call e) (sym two_is) ∙ lap.both.1 in
    let share = shares_named one two call.nr (first_true (names one call.nr) (all_hold one call) holds)
    (first_true (names two call.nr) (all_hold two call) other) in absurd cc

-- entries with the same value do not overlap
pub equal_apart : (profile : Profile) (place second : ℕ) (one two : Entry)
    → slice_get profile.entries place ≡ Some one → slice_get profile.entries second ≡ Some two
    → value_of one.decision ≡ value_of two.decision → IsApart profile place second
equal_apart profile place second one two one_there two_there equal call fits lap =
    let one_is : lap.one ≡ one = cc (lap.one_there, one_there) in
    let two_is : lap.two ≡ two = cc (lap.two_there, two_there) in
    lap.both.2 (ap (λ e. value_of e.decision) one_is ∙ (equal ∙ ap (λ e. value_of e.decision) (sym two_is)))
