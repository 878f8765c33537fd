-- A profile that is light enough has a filter that is short enough.
use Rattle.compile.proofs.Common.{◌≡◌, ℕ, zero, suc, ◌+◌, ◌-◌, ◌*◌, ◌^◌, ◌≤◌, ◌<◌, ◌==◌, inl, inr, Bool, true}
use Rattle.compile.proofs.Common.{false, List, [], ◌∷◌, length, refl, ap, ◌∙◌, arith, cond, ◌||◌, sum_by}
use Rattle.compile.proofs.Common.{list_any, pow-suc, cases_lt, nat_tests, All-head, All-tail, Entry, Profile}
use Rattle.compile.proofs.Common.{AreEntries, names, entry_weight, weight, named, named_below, added_of}
use Rattle.compile.proofs.Common.{added_below, steps_at}
use Rattle.std.proofs.lemmas.List.Sums.{sum_by-cons}
use Rattle.oci_profile.specs.Entries.{IsFit}
use Rattle.compile.proofs.Leaves.{counted_most}
use Rattle.compile.specs.Sizes.{IsAsLong}

-- how many numbers below this one are in a list, each counted once
once_in : List ℕ → ℕ → ℕ
once_in numbers zero = 0
once_in numbers (suc n) = cond (list_any (λ number. number == n) numbers) 1 0 + once_in numbers n

equal_below : ℕ → ℕ → ℕ
equal_below x zero = 0
equal_below x (suc n) = cond (x == n) 1 0 + equal_below x n

none_equal : (x n : ℕ) → n ≤ x → equal_below x n ≡ 0
unfolding equal_below
none_equal x zero past = refl
none_equal x (suc n) past =
    let apart : (x == n) ≡ false = grind (arith, nat_tests) in
    ap {B = ℕ} (λ b. cond b 1 0 + equal_below x n) apart ∙ omega (arith, none_equal x n (omega arith))

one_most : (b : Bool) → cond b 1 0 ≤ 1
one_most true = omega arith
one_most false = omega arith

once_equal : (x n : ℕ) → equal_below x n ≤ 1
unfolding equal_below
once_equal x zero = omega arith
once_equal x (suc n) = elim (cases_lt x n) [
  | inl before ↦
      let apart : (x == n) ≡ false = grind (arith, nat_tests) in
      omega (arith, ap {B = ℕ} (λ b. cond b 1 0) apart, once_equal x n)
  | inr behind ↦ omega (arith, one_most (x == n), none_equal x n behind)
]

either_most : (one other : Bool) → cond (one || other) 1 0 ≤ cond one 1 0 + cond other 1 0
either_most true other = omega arith
either_most false other = omega arith

once_in-cons : (x : ℕ) (numbers : List ℕ) (n : ℕ) → once_in (x ∷ numbers) n ≤ equal_below x n
    + once_in numbers n
unfolding once_in equal_below
once_in-cons x numbers zero = omega arith
once_in-cons x numbers (suc n) = omega (
  arith,
  either_most (x == n) (list_any (λ number. number == n) numbers),
  once_in-cons x numbers n,
)

once_none : (n : ℕ) → once_in [] n ≡ 0
unfolding once_in
once_none zero = refl
once_none (suc n) = omega (arith, once_none n)

once_in-length : (numbers : List ℕ) (n : ℕ) → once_in numbers n ≤ length numbers
once_in-length [] n = omega (arith, once_none n)
once_in-length (x ∷ numbers) n = omega (
  arith,
  once_in-cons x numbers n,
  once_equal x n,
  once_in-length numbers n,
)

-- the pairs of an entry and a number of it, and what their conditions add
abbrev pairs : List Entry → ℕ
pairs [] = 0
pairs (entry ∷ entries) = length entry.numbers + pairs entries

abbrev added : List Entry → ℕ
added [] = 0
added (entry ∷ entries) = length entry.numbers * (1 + 6 * length entry.conds) + added entries

part_of : (b : Bool) (once each rest below : ℕ) → cond b each 0 + rest + (once * each + below)
    ≡ (cond b 1 0 + once) * each + (rest + below)
part_of true once each rest below = omega arith
part_of false once each rest below = omega arith

added-cons : (entry : Entry) (entries : List Entry) (n : ℕ)
    → added_below (entry ∷ entries) n ≡ once_in entry.numbers n * (1 + 6 * length entry.conds)
    + added_below entries n
unfolding once_in names added_below
added-cons entry entries zero = omega arith
added-cons entry entries (suc n) =
    ap (λ m. added_of (entry ∷ entries) n + m) (added-cons entry entries n)
    ∙ part_of (names entry n) (once_in entry.numbers n) (1 + 6 * length entry.conds) (added_of entries n)
    (added_below entries n)

added_none : (n : ℕ) → added_below [] n ≡ 0
unfolding added_below
added_none zero = refl
added_none (suc n) = omega (arith, added_none n)

product_most : (once len each : ℕ) → once ≤ len → once * each ≤ len * each
product_most once len each less = grind arith

added_most : (entries : List Entry) (n : ℕ) → added_below entries n ≤ added entries
added_most [] n = omega (arith, added_none n)
added_most (entry ∷ entries) n =
    omega (
      arith,
      added-cons entry entries n,
      product_most (once_in entry.numbers n) (length entry.numbers) (1 + 6 * length entry.conds)
          (once_in-length entry.numbers n),
      added_most entries n,
    )

named-cons : (entry : Entry) (entries : List Entry) (n : ℕ)
    → named_below (entry ∷ entries) n ≤ once_in entry.numbers n + named_below entries n
unfolding once_in names named_below named
named-cons entry entries zero = omega arith
named-cons entry entries (suc n) = omega (
  arith,
  either_most (names entry n) (named entries n),
  named-cons entry entries n,
)

named_none : (n : ℕ) → named_below [] n ≡ 0
unfolding named_below named
named_none zero = refl
named_none (suc n) = omega (arith, named_none n)

named_most : (entries : List Entry) (n : ℕ) → named_below entries n ≤ pairs entries
named_most [] n = omega (arith, named_none n)
named_most (entry ∷ entries) n = omega (
  arith,
  named-cons entry entries n,
  once_in-length entry.numbers n,
  named_most entries n,
)

weight-parts : (entries : List Entry) → sum_by entry_weight entries ≡ 7 * pairs entries + added entries
weight-parts [] = refl
weight-parts (entry ∷ entries) = omega (arith, sum_by-cons entry_weight entry entries, weight-parts entries)

few_added : (len conds : ℕ) → conds ≤ 6 → len * (1 + 6 * conds) ≤ 37 * len
few_added len conds few = grind arith

small_added : (entries : List Entry) → AreEntries entries → added entries ≤ 37 * pairs entries
small_added [] fit = omega arith
small_added (entry ∷ entries) fit =
    omega (
      arith,
      few_added (length entry.numbers) (length entry.conds)
          (All-head IsFit entry entries fit).conds_fit.few,
      small_added entries (All-tail IsFit entry entries fit),
    )

-- ranges that are few and not longer than their parts fit a filter, with the tests around them
pub light_fits : (profile : Profile) (n big limit end : ℕ) → AreEntries profile.entries
    → n ≤ 2 + 2 * named_below profile.entries limit → big ≤ 3 * n + added_below profile.entries end
    → weight profile ≤ 4096 → big + 4 ≤ 4096
unfolding weight
light_fits profile n big limit end fit few short light =
    let counted = named_most profile.entries limit in
    let sized = added_most profile.entries end in
    let parts = weight-parts profile.entries in
    elim (cases_lt (pairs profile.entries) 3) [
      | inl none ↦ omega (arith, small_added profile.entries fit)
      | inr some ↦ omega arith
    ]

-- a filter that is no longer than these ranges need is no longer than the weight
pub no_heavier : (profile : Profile) (n big limit end long : ℕ) → AreEntries profile.entries
    → n ≤ 2 + 2 * named_below profile.entries limit
    → big ≤ 3 * n + added_below profile.entries end → IsAsLong big long → long ≤ weight profile
unfolding weight
no_heavier profile n big limit end long fit few short is =
    let counted = named_most profile.entries limit in
    let sized = added_most profile.entries end in
    let parts = weight-parts profile.entries in
    elim (cases_lt (pairs profile.entries) 2) [
      | inl none ↦ omega (arith, is.1 (omega (arith, small_added profile.entries fit)))
      | inr some ↦ omega (arith, is.0)
    ]

pub grows_above : (n : ℕ) → suc n ≤ 2 ^ n
grows_above zero = omega arith
grows_above (suc n) = omega (arith, pow-suc 2 n, grows_above n)

-- enough levels for any number of ranges
pub levels_enough : (n : ℕ) → n ≤ 2 ^ n
levels_enough n = omega (arith, grows_above n)

-- enough steps for the entries of any number
abbrev pub all_steps : List Entry → ℕ
all_steps [] = 1
all_steps (entry ∷ entries) = 6 * length entry.conds + all_steps entries

pub steps_all : (entries : List Entry) (nr : ℕ) → steps_at entries nr ≤ all_steps entries
steps_all [] nr = omega arith
steps_all (entry ∷ entries) nr = omega (
  arith,
  counted_most (names entry nr) (length entry.conds),
  steps_all entries nr,
)

pub two_times : (d : ℕ) → 2 ^ (d + 1) ≡ 2 * 2 ^ d
two_times d =
    let more : d + 1 ≡ suc d = omega arith in
    let twice : 2 ^ suc d ≡ 2 * 2 ^ d = omega (arith, pow-suc 2 d) in
    ap (λ n. 2 ^ n) more ∙ twice

pub eight_times : (d : ℕ) → 2 ^ (d + 3) ≡ 8 * 2 ^ d
eight_times d =
    let more : d + 3 ≡ suc (suc (suc d)) = omega arith in
    let thrice : 2 ^ suc (suc (suc d)) ≡ 8 * 2 ^ d = omega (
      arith,
      pow-suc 2 (suc (suc d)),
      pow-suc 2 (suc d),
      pow-suc 2 d,
    ) in
    ap (λ n. 2 ^ n) more ∙ thrice

pub pow_grows : (d more : ℕ) → 2 ^ d ≤ 2 ^ (more + d)
pow_grows d zero =
    let same : 0 + d ≡ d = omega arith in
    omega (arith, ap (λ n. 2 ^ n) same)
pow_grows d (suc more) =
    let next : suc more + d ≡ suc (more + d) = omega arith in
    omega (arith, ap (λ n. 2 ^ n) next, pow-suc 2 (more + d), pow_grows d more)

-- a number of fewer digits has at most half of the room
pub sixteen_times : (l d : ℕ) → 2 ^ l < 2 ^ d → 16 * 2 ^ l ≤ 2 ^ (d + 3)
sixteen_times l d less = elim (cases_lt l d) [
  | inl below ↦
      let up : (d - suc l) + suc l ≡ d = omega arith in
      let most : 2 ^ suc l ≤ 2 ^ d = omega (arith, pow_grows (suc l) (d - suc l), ap (λ n. 2 ^ n) up) in
      omega (arith, most, pow-suc 2 l, eight_times d)
  | inr above ↦
      let up : (l - d) + d ≡ l = omega arith in
      absurd (omega (arith, less, pow_grows d (l - d), ap (λ n. 2 ^ n) up))
]
