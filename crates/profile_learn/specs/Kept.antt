-- What is kept of sightings, and of which sightings that is the summary.
use Rattle.std.specs.Prelude.{◌≡◌, ℕ, ◌==◌, ◌<◌, Bool, true, false, if◌then◌else◌, List, [], ◌∷◌, length}
use Rattle.std.specs.Prelude.{slice_index_or, Option, Some, None}
use Rattle.sys_table.specs.declared.table.TheConstants.{TABLE_LIMIT}
use Rattle.profile_learn.specs.declared.learned.Learned.{Learned}
use Rattle.profile_learn.specs.declared.sighting.Sighting.{Sighting}
use Rattle.profile_learn.specs.declared.values.Values.{Values}
use Rattle.profile_learn.specs.declared.values.Values.TheVariants.{Nothing, One, Two, Three, Four, Many}
use Rattle.profile_learn.specs.declared.values.Values.TheVariants.{Unclear}
use Rattle.profile_learn.specs.Sightings.{distinct, is_among, is_seen, is_unclear, values_seen}

-- the values that are kept
abbrev pub list_of : Values → List ℕ
list_of Nothing = []
list_of (One a) = a ∷ []
list_of (Two a b) = a ∷ b ∷ []
list_of (Three a b c) = a ∷ b ∷ c ∷ []
list_of (Four a b c d) = a ∷ b ∷ c ∷ d ∷ []
list_of Many = []
list_of Unclear = []

-- the values are known, and four at most
abbrev pub is_few : Values → Bool
is_few Nothing = true
is_few (One a) = true
is_few (Two a b) = true
is_few (Three a b c) = true
is_few (Four a b c d) = true
is_few Many = false
is_few Unclear = false

-- one of the values is not known
abbrev pub lacks_one : Values → Bool
lacks_one Nothing = false
lacks_one (One a) = false
lacks_one (Two a b) = false
lacks_one (Three a b c) = false
lacks_one (Four a b c d) = false
lacks_one Many = false
lacks_one Unclear = true

-- with one more value
abbrev pub plus : Values → ℕ → Values
plus Nothing v = One v
plus (One a) v = Two a v
plus (Two a b) v = Three a b v
plus (Three a b c) v = Four a b c v
plus (Four a b c d) v = Many
plus Many v = Many
plus Unclear v = Unclear

abbrev pub with_value : Values → ℕ → Values
with_value values v = if is_among (list_of values) v then values else plus values v

abbrev pub with_option : Values → Option ℕ → Values
with_option values None = Unclear
with_option values (Some v) = with_value values v

-- with one more sighting
abbrev pub noted : Values → ℕ → Sighting → Values
noted values nr s = if s.number == nr then with_option values s.value else values

-- the values that were seen, each once
pub record IsEach (kept seen : List ℕ) : Type 0 where
  pub many : length kept ≡ length (distinct seen)
  pub same : (value : ℕ) → is_among kept value ≡ is_among seen value

pub record IsList (kept : List ℕ) (unclear : Bool) (seen : List ℕ) : Type 0 where
  pub clear : unclear ≡ false
  pub each : IsEach kept seen

-- what is kept of a call that was seen with these values, and maybe without one
abbrev pub IsKept : Values → Bool → List ℕ → Type 0
IsKept Nothing unclear seen = IsList [] unclear seen
IsKept (One a) unclear seen = IsList (a ∷ []) unclear seen
IsKept (Two a b) unclear seen = IsList (a ∷ b ∷ []) unclear seen
IsKept (Three a b c) unclear seen = IsList (a ∷ b ∷ c ∷ []) unclear seen
IsKept (Four a b c d) unclear seen = IsList (a ∷ b ∷ c ∷ d ∷ []) unclear seen
IsKept Many unclear seen = (unclear ≡ false) × (4 < length (distinct seen))
IsKept Unclear unclear seen = unclear ≡ true

-- what is kept of the call with this number
abbrev pub IsKeptOf : Values → ℕ → List Sighting → Type 0
IsKeptOf values nr history = IsKept values (is_unclear history nr) (values_seen history nr)

-- the summary of these sightings
pub record IsSummary (learned : Learned) (history : List Sighting) : Type 0 where
  pub whole : length learned.seen ≡ TABLE_LIMIT
  pub of_table : (nr : ℕ) → is_seen history nr ≡ true → nr < TABLE_LIMIT
  pub seen : (nr : ℕ) → nr < TABLE_LIMIT → slice_index_or learned.seen nr false ≡ is_seen history nr
  pub ioctl : IsKeptOf learned.ioctl 16 history
  pub socket : IsKeptOf learned.socket 41 history
  pub fcntl : IsKeptOf learned.fcntl 72 history
  pub personality : IsKeptOf learned.personality 135 history
  pub prctl : IsKeptOf learned.prctl 157 history
