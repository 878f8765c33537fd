-- What the matches of a command line say: where each word stands is the usage line's, docs/SEMANTICS.md,
-- "Programs". A required argument always has a word.
use Rattle.std.specs.Prelude.{ℕ, ◌^◌, List, [], codes, option_map, unwrap_or, Option, Some, None, Result, Ok, Err}
use Rattle.clap.specs.Matches.{first_value, matched_of, raw_values}
use Rattle.clap.specs.declared.parser.matches.Found.{Found}
use Rattle.call_data.specs.declared.sys_call.SysCall.{SysCall}
use Rattle.seccheck_words.specs.CallWords.{BadWord, call_of}
use Rattle.command_line.specs.Words.{written_or}
use Rattle.sys_table.specs.SysTable.{table_of}
use Rattle.sys_table.specs.declared.calls.CallTable.{CallTable}
use Rattle.sys_table.specs.declared.calls.CallTable.TheVariants.{Linux5_8}

-- the word of a required argument
abbrev pub word_in : List ℕ → Found → List ℕ
word_in id found = unwrap_or (first_value found id) []

-- the words of an argument that may stand any number of times
abbrev pub words_in : List ℕ → Found → List (List ℕ)
words_in id found = unwrap_or (option_map raw_values (matched_of found id)) []

abbrev pub ok_or : List ℕ → Option CallTable → Result CallTable (List ℕ)
ok_or word None = Err word
ok_or word (Some calls) = Ok calls

-- the calls that are known, by default those of Linux 5.8
abbrev pub calls_or : Option (List ℕ) → Result CallTable (List ℕ)
calls_or None = Ok Linux5_8
calls_or (Some word) = ok_or word (table_of word)

abbrev pub calls_in : Found → Result CallTable (List ℕ)
calls_in found = calls_or (first_value found (codes "calls"))

-- the call of `run` and `explain`
abbrev pub call_in : CallTable → Found → Result SysCall BadWord
call_in calls found = call_of calls (word_in (codes "CALL") found) (words_in (codes "ARG") found)
    (first_value found (codes "arch")) (first_value found (codes "ip"))

-- the attempt of `play`, from 0
abbrev pub attempt_in : Found → Result ℕ (List ℕ)
attempt_in found = written_or (2 ^ 32) 0 (first_value found (codes "attempt"))

-- how many instructions `compare` follows at most
abbrev pub budget_in : ℕ → Found → Result ℕ (List ℕ)
budget_in default found = written_or (2 ^ 64) default (first_value found (codes "budget"))
