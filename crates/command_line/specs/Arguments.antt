-- A command line's arguments in clap: options with a value, flags, positional words. Their values on a line
-- are read off the matches in clap's definition of a simple command.
use Rattle.std.specs.Prelude.{ℕ, [], List, true, Bool, codes, Some, is_some, unwrap_or}
use Rattle.std.specs.Str.{bytes_eq}
use Rattle.clap.specs.Lexer.{usize_max}
use Rattle.clap.specs.Simple.{App, new_rule, on_top}
use Rattle.clap.specs.Walk.{Row, Rule, all_of, first_of}
use Rattle.clap.specs.declared.builder.action.ArgAction.TheVariants.{SetTrue}

-- with `--version`
abbrev pub versioned : App → App
versioned app = on_top (λ shape. record shape { has_version = true }) app

-- `--id VALUE`
abbrev pub option_rule : List ℕ → Rule
option_rule id = record (new_rule id) { long = Some id; value_names = 1 }

-- the same, but required
abbrev pub required_rule : List ℕ → Rule
required_rule id = record (new_rule id) { long = Some id; value_names = 1; required = true }

-- `--id`
abbrev pub flag_rule : List ℕ → Rule
flag_rule id = record (new_rule id) { long = Some id; action = Some SetTrue }

-- positional words
abbrev pub words_rule : List ℕ → Rule
words_rule id = record (new_rule id) {
  range =
      Some (record { start_inclusive = 1; end_inclusive = usize_max });
}

-- the value of a required option
abbrev pub word_of : List ℕ → List Row → List ℕ
word_of id rows = unwrap_or (first_of id rows) []

-- a folder, by default the one that the program runs in
abbrev pub folder_of : List ℕ → List Row → List ℕ
folder_of id rows = unwrap_or (first_of id rows) (codes ".")

-- clap sets a flag to the word true or false
abbrev pub is_set : List ℕ → List Row → Bool
is_set id rows = bytes_eq (unwrap_or (first_of id rows) []) (codes "true")

-- whether the line has the option
abbrev pub is_there : List ℕ → List Row → Bool
is_there id rows = is_some (first_of id rows)

-- whether the line has such a word
abbrev pub has_words : List ℕ → List Row → Bool
has_words id rows = is_some (all_of id rows)

abbrev pub words_of : List ℕ → List Row → List (List ℕ)
words_of id rows = unwrap_or (all_of id rows) []
