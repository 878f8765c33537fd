-- What is reported of the entries of a profile, finding by finding.
use Rattle.std.proofs.Common.{◌≡◌, ℕ, ◌+◌, ◌<◌, ◌≤◌, List, [], ◌∷◌, ◌++◌, ◌||◌, Bool, true, false}
use Rattle.std.proofs.Common.{refl, ap, subst, sym, ◌∙◌, arith, length}
use Rattle.std.proofs.lemmas.List.{append-nil}
use Rattle.std.proofs.lemmas.List.Elements.{All-append, All-cons, All-nil}
use Rattle.std.specs.Prelude.{◌==◌, nat_lt, All, IfSome, Option, None, Some, option_map, option_to_list}
use Rattle.std.specs.List.{list_any}
use Rattle.std.proofs.lemmas.Grind.{common_steps}
use Rattle.std.proofs.lemmas.List.Folds.{list_any-append}
use Rattle.std.proofs.lemmas.Option.{slice_get_within}
use Rattle.oci_profile.specs.declared.profile.Profile.{Profile}
use Rattle.profile_lint.specs.declared.finding.Finding.{Finding}
use Rattle.profile_lint.specs.declared.finding.Finding.TheVariants as found
use Rattle.profile_lint.specs.Findings.{AreAll, HasNeed, HasOverlap, HasReading, IsReported, IsSo, newer_of}
use Rattle.profile_lint.specs.Findings.{is_on_need, is_on_newer, is_on_overlap, is_on_reading}

first_false : (a b : Bool) → (a || b) ≡ false → a ≡ false
first_false true b h = h
first_false false b h = refl

rest_false : (a b : Bool) → (a || b) ≡ false → b ≡ false
rest_false true b h = absurd cc
rest_false false b h = h

any_true : (a : Bool) → (a || true) ≡ true
any_true true = refl
any_true false = refl

none_left : (test : Finding → Bool) (xs ys : List Finding) → list_any test (xs ++ ys) ≡ false
    → list_any test xs ≡ false
none_left test xs ys none =
    first_false (list_any test xs) (list_any test ys) (sym (list_any-append test xs ys) ∙ none)

none_right : (test : Finding → Bool) (xs ys : List Finding) → list_any test (xs ++ ys) ≡ false
    → list_any test ys ≡ false
none_right test xs ys none =
    rest_false (list_any test xs) (list_any test ys) (sym (list_any-append test xs ys) ∙ none)

-- what is reported stays reported
pub need_left : (profile : Profile) (xs ys : List Finding) (place : ℕ) → HasNeed profile xs place
    → HasNeed profile (xs ++ ys) place
need_left profile xs ys place has none = has (none_left (is_on_need place) xs ys none)

pub reading_left : (profile : Profile) (xs ys : List Finding) (place : ℕ) → HasReading profile xs place
    → HasReading profile (xs ++ ys) place
reading_left profile xs ys place has none = has (none_left (is_on_reading place) xs ys none)

pub reading_right : (profile : Profile) (xs ys : List Finding) (place : ℕ) → HasReading profile ys place
    → HasReading profile (xs ++ ys) place
reading_right profile xs ys place has none = has (none_right (is_on_reading place) xs ys none)

pub overlap_left : (profile : Profile) (xs ys : List Finding) (place second : ℕ)
    → HasOverlap profile xs place second → HasOverlap profile (xs ++ ys) place second
overlap_left profile xs ys place second has none = has (none_left (is_on_overlap place second) xs ys none)

pub overlap_right : (profile : Profile) (xs ys : List Finding) (place second : ℕ)
    → HasOverlap profile ys place second → HasOverlap profile (xs ++ ys) place second
overlap_right profile xs ys place second has none = has (none_right (is_on_overlap place second) xs ys none)

pub reported_left : (profile : Profile) (xs ys : List Finding) (place : ℕ) → IsReported profile xs place
    → IsReported profile (xs ++ ys) place
reported_left profile xs ys place has = record {
  need = need_left profile xs ys place has.need;
  reading = reading_left profile xs ys place has.reading;
  overlaps = λ second. overlap_left profile xs ys place second (has.overlaps second);
}

pub reported_right : (profile : Profile) (xs ys : List Finding) (place : ℕ) → IsReported profile ys place
    → IsReported profile (xs ++ ys) place
reported_right profile xs ys place has = record {
  need = λ none. has.need (none_right (is_on_need place) xs ys none);
  reading = reading_right profile xs ys place has.reading;
  overlaps = λ second. overlap_right profile xs ys place second (has.overlaps second);
}

-- a place after the last entry
pub past_reported : (profile : Profile) (finds : List Finding) (place : ℕ) → length profile.entries ≤ place
    → IsReported profile finds place
past_reported profile finds place past = record {
  need = λ none entry there.
      let within : place < length profile.entries = slice_get_within profile.entries place entry there in
      absurd (omega arith);
  reading = λ none call values fits otherwise.
      let within : place < length profile.entries =
      slice_get_within profile.entries place otherwise.decides.entry otherwise.decides.there in
      absurd (omega arith);
  overlaps = λ second none call fits lap.
      let within : place < length profile.entries =
      slice_get_within profile.entries place lap.one lap.one_there in
      absurd (omega arith);
}

-- the entries at the place and before a second one: their overlaps are reported
abbrev pub AreApartTo : Profile → List Finding → ℕ → ℕ → Type 0
AreApartTo profile finds place bound = (second : ℕ) → second < bound → HasOverlap profile finds place second

pub apart_start : (profile : Profile) (finds : List Finding) (place : ℕ)
    → AreApartTo profile finds place (place + 1)
apart_start profile finds place second below none call fits lap =
    let ordered : place < second = lap.ordered in absurd (omega arith)

is_same : (n : ℕ) → (n == n) ≡ true
is_same n = grind (arith, common_steps)

below_or_at : (profile : Profile) (finds : List Finding) (place bound second : ℕ) → second < bound + 1
    → AreApartTo profile finds place bound → HasOverlap profile finds place bound
    → (is : Bool) → (second == bound) ≡ is → HasOverlap profile finds place second
below_or_at profile finds place bound second below before here true is =
    let same : second ≡ bound = grind (arith, is) in rw same here
below_or_at profile finds place bound second below before here false is =
    let apart : second < bound = grind (arith, is, below) in before second apart

pub apart_on : (profile : Profile) (finds : List Finding) (place bound : ℕ)
    → AreApartTo profile finds place bound → HasOverlap profile finds place bound
    → AreApartTo profile finds place (bound + 1)
apart_on profile finds place bound before here second below =
    below_or_at profile finds place bound second below before here _ refl

-- one more step: whatever is added reports the overlap
pub apart_more : (profile : Profile) (finds more : List Finding) (place bound : ℕ)
    → AreApartTo profile finds place bound → HasOverlap profile more place bound
    → AreApartTo profile (finds ++ more) place (bound + 1)
apart_more profile finds more place bound before here =
    apart_on profile (finds ++ more) place bound
    (λ second below. overlap_left profile finds more place second (before second below))
    (overlap_right profile finds more place bound here)

at_or_past : (profile : Profile) (finds : List Finding) (place bound second : ℕ)
    → AreApartTo profile finds place bound → length profile.entries ≤ bound
    → HasOverlap profile finds place second
at_or_past profile finds place bound second before past none call fits lap =
    let within : second < length profile.entries =
    slice_get_within profile.entries second lap.two lap.two_there in
    before second (omega arith) none call fits lap

pub apart_all : (profile : Profile) (finds : List Finding) (place bound : ℕ)
    → AreApartTo profile finds place bound → length profile.entries ≤ bound
    → (second : ℕ) → HasOverlap profile finds place second
apart_all profile finds place bound before past second = at_or_past profile finds place bound second before past

-- that an entry was not compared is a report of all its overlaps
pub uncompared : (profile : Profile) (finds : List Finding) (place : ℕ) (one : Option Finding)
    → one ≡ Some (found.NotCompared place)
    → (second : ℕ) → HasOverlap profile (finds ++ option_to_list one) place second
uncompared profile finds place one is second none =
    let told = first_false (place == place) false (none_right (is_on_overlap place second) finds
    (found.NotCompared place ∷ [])
    (ap (λ o. list_any (is_on_overlap place second) (finds ++ option_to_list o)) (sym is) ∙ none)) in
    let equal = is_same place in absurd cc

pub so_more : (test : Finding → Type 0) (finds : List Finding) (one : Option Finding) → All test finds
    → IfSome one test → All test (finds ++ option_to_list one)
so_more test finds None so here = subst (All test) (sym (append-nil finds)) so
so_more test finds (Some one) so here =
    All-append test finds (one ∷ []) so (All-cons test one [] here (All-nil test))

-- the need, and then what engines make of it
pub all_reported : (profile : Profile) (one : Option Finding) (others : List Finding) (place : ℕ)
    → HasNeed profile (option_to_list one) place → HasReading profile others place
    → ((second : ℕ) → HasOverlap profile others place second)
    → IsReported profile (option_to_list one ++ others) place
all_reported profile one others place need reading overlaps = record {
  need = need_left profile (option_to_list one) others place need;
  reading = reading_right profile (option_to_list one) others place reading;
  overlaps = λ second. overlap_right profile (option_to_list one) others place second (overlaps second);
}

abbrev pub AreReportedTo : Profile → List Finding → ℕ → Type 0
AreReportedTo profile finds bound = (place : ℕ) → place < bound → IsReported profile finds place

next_by : (profile : Profile) (finds : List Finding) (bound place : ℕ) → place < bound + 1
    → AreReportedTo profile finds bound → IsReported profile finds bound
    → (is : Bool) → (place == bound) ≡ is → IsReported profile finds place
next_by profile finds bound place below before here true is =
    let same : place ≡ bound = grind (arith, is) in rw same here
next_by profile finds bound place below before here false is =
    let apart : place < bound = grind (arith, is, below) in before place apart

pub reported_next : (profile : Profile) (finds more : List Finding) (bound : ℕ)
    → AreReportedTo profile finds bound → IsReported profile more bound
    → AreReportedTo profile (finds ++ more) (bound + 1)
reported_next profile finds more bound before here place below =
    next_by profile (finds ++ more) bound place below
    (λ p under. reported_left profile finds more p (before p under))
    (reported_right profile finds more bound here) _ refl

all_by : (profile : Profile) (finds : List Finding) (bound place : ℕ) → AreReportedTo profile finds bound
    → length profile.entries ≤ bound → (is : Bool) → nat_lt place bound ≡ is → IsReported profile finds place
all_by profile finds bound place before past true is =
    before place (grind (arith, is))
all_by profile finds bound place before past false is =
    past_reported profile finds place (grind (arith, is, past))

pub reported_all : (profile : Profile) (finds : List Finding) (bound : ℕ) → AreReportedTo profile finds bound
    → length profile.entries ≤ bound → (place : ℕ) → IsReported profile finds place
reported_all profile finds bound before past place = all_by profile finds bound place before past _ refl

newer_in : (finds : List Finding) (errno : Option ℕ) (code : ℕ) → errno ≡ Some code
    → list_any (is_on_newer code) (finds ++ option_to_list (option_map (λ c. found.NewerCalls c) errno)) ≡ true
newer_in finds errno code is =
    rw is (list_any-append (is_on_newer code) finds (found.NewerCalls code ∷ [])
    ∙ rw (is_same code) (any_true (list_any (is_on_newer code) finds)))

-- the finding about the default
pub newer_so : (profile : Profile) (errno : Option ℕ) → errno ≡ newer_of profile.default
    → IfSome (option_map (λ code. found.NewerCalls code) errno) (IsSo profile)
newer_so profile None is = tt
newer_so profile (Some code) is = sym is

pub newer_all : (profile : Profile) (finds : List Finding) (errno : Option ℕ)
    → errno ≡ newer_of profile.default → ((place : ℕ) → IsReported profile finds place)
    → AreAll profile (finds ++ option_to_list (option_map (λ code. found.NewerCalls code) errno))
newer_all profile finds errno is before = record {
  entries = λ place. reported_left profile finds
      (option_to_list (option_map (λ code. found.NewerCalls code) errno)) place (before place);
  newer = λ code so. newer_in finds errno code (is ∙ so);
}
