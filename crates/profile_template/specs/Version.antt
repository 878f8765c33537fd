-- Versions of a kernel, as uname(2) begins them, and as `minKernel` of a template writes them.
use Rattle.std.specs.Prelude.{ℕ, ◌+◌, ◌-◌, ◌*◌, ◌^◌, ◌==◌, ◌&&◌, ◌||◌, List, [], ◌∷◌, length, take, drop}
use Rattle.std.specs.Prelude.{position, nat_le, nat_lt, if◌then◌else◌, Bool, Option, Some, None}
use Rattle.std.specs.Prelude.{option_and_then}
use Rattle.profile_template.specs.declared.version.Version.{Version}

abbrev pub is_digit : ℕ → Bool
is_digit c = nat_le 48 c && nat_le c 57

-- the number with this digit appended, if it is a digit and the result is below 2^32
abbrev pub with_digit : ℕ → ℕ → Option ℕ
with_digit n c = if is_digit c && nat_lt (n * 10 + (c - 48)) (2 ^ 32) then Some (n * 10 + (c - 48)) else None

abbrev pub number_after : ℕ → List ℕ → Option ℕ
number_after n [] = Some n
number_after n (c ∷ cs) = option_and_then (λ m. number_after m cs) (with_digit n c)

abbrev pub number_of : List ℕ → Option ℕ
number_of digits = if length digits == 0 then None else number_after 0 digits

-- the number before the dot at this place and the one after it
abbrev pub version_at : List ℕ → ℕ → Option Version
version_at text dot = option_and_then (λ major.
    option_and_then (λ minor. Some (record { major = major; minor = minor }))
    (number_of (drop (dot + 1) text))) (number_of (take dot text))

-- the place of the first dot
abbrev pub dot_at : List ℕ → Option ℕ
dot_at text = position (λ c. c == 46) text

abbrev pub version_of : List ℕ → Option Version
version_of text = option_and_then (version_at text) (dot_at text)

-- whether it is this one or a newer one
abbrev pub is_at_least : Version → Version → Bool
is_at_least version least = nat_lt least.major version.major
    || (version.major == least.major && nat_le least.minor version.minor)
