-- What the getters of matches read, by the rows in clap's definition of a simple command.
use Rattle.std.proofs.Common.{◌≡◌, List, ℕ, option_map}
use Rattle.clap.specs.Matches.{first_value, matched_of, raw_values}
use Rattle.clap.specs.Walk.{all_of, first_of, rows_of}
use Rattle.clap.specs.declared.parser.matches.Found.{Found}
use Rattle.clap.proofs.WalkLemmas.{first_value-rows, raw_values-rows}

pub first : (f : Found) (id : List ℕ) → first_value f id ≡ first_of id (rows_of f)
first = first_value-rows

pub all : (f : Found) (id : List ℕ) → option_map raw_values (matched_of f id) ≡ all_of id (rows_of f)
all = raw_values-rows
