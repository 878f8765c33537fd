-- Which call the words of a command line write: docs/SEMANTICS.md, "Programs". Its numbers are looked at in
-- the order of the usage line, and the first word that writes no number of its range is the answer else.
use Rattle.std.specs.Prelude.{ℕ, ◌^◌, List, [], ◌∷◌, slice_get, Option, Some, None, Result, Ok}
use Rattle.json_tree.specs.Reading.{◌>>=◌, as_fault}
use Rattle.call_data.specs.declared.sys_call.SysCall.{SysCall}
use Rattle.command_line.specs.Numbers.{number_in}
use Rattle.command_line.specs.Words.{number_or_word, written_or}
use Rattle.seccheck_words.specs.Architectures.{arch_or}
use Rattle.seccheck_words.specs.declared.call_words.BadCallWord.{BadCallWord}
use Rattle.seccheck_words.specs.declared.call_words.BadCallWord.TheVariants as of
use Rattle.sys_table.specs.SysTable.{number_in as number_named}
use Rattle.sys_table.specs.declared.calls.CallTable.{CallTable}

-- the word that is refused, as its bytes, by what it should write
pub data BadWord : Type 0 where
  Call : List ℕ → BadWord
  Arch : List ℕ → BadWord
  Number : List ℕ → BadWord

abbrev pub bad_word : BadCallWord → BadWord
bad_word (of.Call word) = BadWord.Call word.now
bad_word (of.Arch word) = BadWord.Arch word.now
bad_word (of.Number word) = BadWord.Number word.now

abbrev pub told_word : {X : Type 0} → Result X BadCallWord → Result X BadWord
told_word result = as_fault bad_word result

-- the number that a word writes, else that of the known call with this name
abbrev pub number_or_name : Option ℕ → Option ℕ → Option ℕ
number_or_name (Some number) named = Some number
number_or_name None named = named

abbrev pub call_number_of : CallTable → List ℕ → Result ℕ (List ℕ)
call_number_of calls word =
    number_or_word word (number_or_name (number_in (2 ^ 32) word) (number_named calls word))

-- an argument that is left out is 0
abbrev pub argument_of : List (List ℕ) → ℕ → Result ℕ (List ℕ)
argument_of words place = written_or (2 ^ 64) 0 (slice_get words place)

unfoldable pub arguments_of : List (List ℕ) → Result (List ℕ) (List ℕ)
arguments_of words = do
  first ← argument_of words 0
  second ← argument_of words 1
  third ← argument_of words 2
  fourth ← argument_of words 3
  fifth ← argument_of words 4
  sixth ← argument_of words 5
  Ok (first ∷ second ∷ third ∷ fourth ∷ fifth ∷ sixth ∷ [])

unfoldable pub call_of : CallTable → List ℕ → List (List ℕ) → Option (List ℕ) → Option (List ℕ)
    → Result SysCall BadWord
call_of calls nr args arch ip = do
  number ← as_fault BadWord.Call (call_number_of calls nr)
  arguments ← as_fault BadWord.Number (arguments_of args)
  architecture ← as_fault BadWord.Arch (arch_or arch)
  pointer ← as_fault BadWord.Number (written_or (2 ^ 64) 0 ip)
  Ok (record { nr = number; arch = architecture; ip = pointer; args = arguments })
