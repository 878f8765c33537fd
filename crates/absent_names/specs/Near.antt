-- Names that are alike, this project's own: their distance by Levenshtein is small for their length.
use Rattle.std.specs.Prelude.{ℕ, zero, suc, ◌==◌, nat_le, Bool, true, false, ◌&&◌, ◌||◌, if◌then◌else◌}
use Rattle.std.specs.Str.{bytes_eq}
use Rattle.std.specs.Prelude.{List, [], ◌∷◌, length, Option, Some, None}
use Rattle.sys_table.specs.SysTable.{limit_of, name_in}
use Rattle.sys_table.specs.declared.calls.CallTable.{CallTable}

-- whether at most one byte has to be left out, added or replaced to make the one of the other
abbrev pub is_within_one : List ℕ → List ℕ → Bool
is_within_one [] call = nat_le (length call) 1
is_within_one (a ∷ xs) [] = nat_le (length (a ∷ xs)) 1
is_within_one (a ∷ xs) (b ∷ ys) = if a == b then is_within_one xs ys
    else (bytes_eq xs ys || (bytes_eq xs (b ∷ ys) || bytes_eq (a ∷ xs) ys))

-- and at most two
abbrev pub is_within_two : List ℕ → List ℕ → Bool
is_within_two [] call = nat_le (length call) 2
is_within_two (a ∷ xs) [] = nat_le (length (a ∷ xs)) 2
is_within_two (a ∷ xs) (b ∷ ys) = if a == b then is_within_two xs ys
    else (is_within_one xs ys || (is_within_one xs (b ∷ ys) || is_within_one (a ∷ xs) ys))

-- whether a name of this length may be meant to be another: more than half of its bytes are right
abbrev pub is_like : Bool → List ℕ → List ℕ → Bool
is_like true name call = nat_le 3 (length name) && is_within_one name call
is_like false name call = nat_le 5 (length name) && is_within_two name call

abbrev pub first_of : Bool → List ℕ → Option (List ℕ) → Option (List ℕ) → Option (List ℕ)
first_of once name None later = later
first_of once name (Some call) later = if is_like once name call then Some call else later

-- the first of these calls that is like the name, among so many numbers from this one on
abbrev pub first_from : CallTable → Bool → List ℕ → ℕ → ℕ → Option (List ℕ)
first_from calls once name number zero = None
first_from calls once name number (suc count) =
    first_of once name (name_in calls number) (first_from calls once name (suc number) count)

abbrev pub first : CallTable → Bool → List ℕ → Option (List ℕ)
first calls once name = first_from calls once name 0 (limit_of calls)

abbrev pub or_else : Option (List ℕ) → Option (List ℕ) → Option (List ℕ)
or_else None second = second
or_else (Some first) second = Some first

-- the one of these calls that the name was probably meant to be
unfoldable pub suggestion : CallTable → List ℕ → Option (List ℕ)
suggestion calls name = or_else (first calls true name) (first calls false name)
