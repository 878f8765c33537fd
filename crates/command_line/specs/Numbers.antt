-- The number that a word of a command line spells: decimal digits, or hexadecimal ones of either case after
-- 0x; no sign, and any number of leading zeros. This project's own: docs/SEMANTICS.md, "Programs".
use Rattle.std.specs.Prelude.{ℕ, ◌&&◌, List, length, drop, codes, nat_eq, nat_lt, Bool, if◌then◌else◌, Option}
use Rattle.std.specs.Prelude.{Some, None}
use Rattle.std.specs.List.{list_all, starts_with}
use Rattle.std.specs.Char.{digit_value}
use Rattle.std.specs.Str.Parse.{digits_value}

abbrev pub is_hexadecimal : List ℕ → Bool
is_hexadecimal word = starts_with nat_eq word (codes "0x")

-- the digits of a word, and their base
abbrev pub digits_of : List ℕ → List ℕ
digits_of word = if is_hexadecimal word then drop 2 word else word

abbrev pub base_of : List ℕ → ℕ
base_of word = if is_hexadecimal word then 16 else 10

-- one digit or more, and nothing else
abbrev pub is_numeral : ℕ → List ℕ → Bool
is_numeral base digits = nat_lt 0 (length digits)
    && list_all (λ digit. nat_lt (digit_value digit) base) digits

-- the number that the digits spell, if it is below the limit
unfoldable pub numeral : ℕ → ℕ → List ℕ → Option ℕ
numeral limit base digits = if is_numeral base digits && nat_lt (digits_value base digits) limit
    then Some (digits_value base digits) else None

-- the number that a word spells, if it spells one below the limit
unfoldable pub number_in : ℕ → List ℕ → Option ℕ
number_in limit word = numeral limit (base_of word) (digits_of word)
