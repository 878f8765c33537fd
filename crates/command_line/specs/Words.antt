-- Numbers that words of a command line spell, each with its range; an optional word has a default. This
-- project's own: docs/SEMANTICS.md, "Programs".
use Rattle.std.specs.Borrow.{Bor}
use Rattle.std.specs.Prelude.{ℕ, ◌^◌, ◌&&◌, nat_le, List, if◌then◌else◌, Option, Some, None, Result, Ok, Err}
use Rattle.command_line.specs.Numbers.{number_in}

-- the word that is reported in place of a number, as its bytes
abbrev pub told : {X : Type 0} → Result X (Bor (List ℕ)) → Result X (List ℕ)
told (Ok x) = Ok x
told (Err word) = Err word.now

-- the number, or the word that spells none
abbrev pub number_or_word : List ℕ → Option ℕ → Result ℕ (List ℕ)
number_or_word word None = Err word
number_or_word word (Some number) = Ok number

-- the number of a word, or the word itself
abbrev pub written : ℕ → List ℕ → Result ℕ (List ℕ)
written limit word = number_or_word word (number_in limit word)

-- the same for an optional word
abbrev pub written_or : ℕ → ℕ → Option (List ℕ) → Result ℕ (List ℕ)
written_or limit default None = Ok default
written_or limit default (Some word) = written limit word

-- the number, if it is one from the least to the most
abbrev pub between : ℕ → ℕ → Option ℕ → Option ℕ
between least most None = None
between least most (Some number) = if nat_le least number && nat_le number most then Some number else None

abbrev pub written_within : ℕ → ℕ → ℕ → Option (List ℕ) → Result ℕ (List ℕ)
written_within least most default None = Ok default
written_within least most default (Some word) =
    number_or_word word (between least most (number_in (2 ^ 32) word))

-- a number, None if its word is left out
abbrev pub some_number : Result ℕ (List ℕ) → Result (Option ℕ) (List ℕ)
some_number (Ok number) = Ok (Some number)
some_number (Err word) = Err word

abbrev pub written_if_there : ℕ → Option (List ℕ) → Result (Option ℕ) (List ℕ)
written_if_there limit None = Ok None
written_if_there limit (Some word) = some_number (written limit word)
