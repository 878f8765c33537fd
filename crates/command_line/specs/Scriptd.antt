-- The line `scriptd --socket PATH [--scripts DIR] [--profiles DIR] [--calls V] [--baseline FILTER]
-- [--runners N] [--records FILE] [--records-all] [--verbose]`, this project's own: docs/SEMANTICS.md, "Programs".
use Rattle.std.specs.Prelude.{ℕ, ◌&&◌, List, Bool, not, if◌then◌else◌, codes, Option, Some, None, Result, Ok}
use Rattle.std.specs.Prelude.{Err, option_map, unwrap_or, is_some}
use Rattle.sys_table.specs.SysTable.{table_of}
use Rattle.sys_table.specs.declared.calls.CallTable.{CallTable}
use Rattle.sys_table.specs.declared.calls.CallTable.TheVariants.{Linux5_8}
use Rattle.clap.specs.Simple.{App, new_app, with_rule}
use Rattle.clap.specs.Walk.{Row, first_of}
use Rattle.command_line.specs.Arguments.{flag_rule, folder_of, is_set, is_there, option_rule, required_rule}
use Rattle.command_line.specs.Arguments.{versioned, word_of}
use Rattle.command_line.specs.declared.fault.Misfit.{Misfit}
use Rattle.command_line.specs.declared.fault.Misfit.TheVariants.{WithoutRecords, BadCalls}
use Rattle.command_line.specs.Words.{written_within}
use Rattle.command_line.specs.declared.scriptd.ScriptdLine.{ScriptdLine}

-- the command line, to clap
abbrev pub folders : App → App
folders app = with_rule (with_rule (with_rule app (option_rule (codes "scripts")))
    (option_rule (codes "profiles"))) (option_rule (codes "calls"))

abbrev pub serving : App → App
serving app = with_rule (folders (with_rule app (required_rule (codes "socket"))))
    (option_rule (codes "baseline"))

abbrev pub recording : App → App
recording app = with_rule (with_rule app (option_rule (codes "records"))) (flag_rule (codes "records-all"))

abbrev pub stepping : App → App
stepping app = with_rule (recording (with_rule app (option_rule (codes "runners"))))
    (flag_rule (codes "verbose"))

unfoldable pub scriptd : App
scriptd = stepping (serving (versioned (new_app (codes "scriptd"))))

-- the calls of the version of Linux that a word names, if it has a table; without a word those of 5.8
abbrev pub calls_named : Option (List ℕ) → Option CallTable
calls_named None = Some Linux5_8
calls_named (Some version) = table_of version

-- the calls that scripts and profiles can name
abbrev pub calls_in : List Row → CallTable
calls_in rows = unwrap_or (calls_named (first_of (codes "calls") rows)) Linux5_8

-- the values of a line
pub record Scriptd : Type 0 where
  pub socket : List ℕ
  pub scripts : List ℕ
  pub profiles : List ℕ
  pub calls : CallTable
  pub baseline : Option (List ℕ)
  -- from 1 to 64, by default 4
  pub runners : ℕ
  -- the file of the records, and whether they list performed calls too
  pub records : Option (List ℕ)
  pub records_all : Bool
  pub verbose : Bool

abbrev pub scriptd_with : List Row → Result ℕ (List ℕ) → Result Scriptd (List ℕ)
scriptd_with rows (Err word) = Err word
scriptd_with rows (Ok runners) = Ok (record {
  socket = word_of (codes "socket") rows;
  scripts = folder_of (codes "scripts") rows;
  profiles = folder_of (codes "profiles") rows;
  calls = calls_in rows;
  baseline = first_of (codes "baseline") rows;
  runners = runners;
  records = first_of (codes "records") rows;
  records_all = is_set (codes "records-all") rows;
  verbose = is_set (codes "verbose") rows;
})

-- the values of a line by its matches, or the word that is not a number in its range
abbrev pub scriptd_in : List Row → Result Scriptd (List ℕ)
scriptd_in rows = scriptd_with rows (written_within 1 64 4 (first_of (codes "runners") rows))

-- the choice of what records list is of no use without a file for them
abbrev pub misfit_of_records : List Row → Option (List ℕ × Misfit)
misfit_of_records rows =
    if is_set (codes "records-all") rows && not (is_there (codes "records") rows)
    then Some (codes "--records-all", WithoutRecords)
    else None

-- only some versions of Linux have a table
abbrev pub misfit_of_calls : List Row → Option (List ℕ × Misfit)
misfit_of_calls rows =
    if is_some (calls_named (first_of (codes "calls") rows)) then None else Some (codes "--calls", BadCalls)

abbrev pub or_else : Option (List ℕ × Misfit) → Option (List ℕ × Misfit) → Option (List ℕ × Misfit)
or_else (Some first) other = Some first
or_else None other = other

-- the first word, in the order of the line, that does not go with the others
abbrev pub misfit_of_scriptd : List Row → Option (List ℕ × Misfit)
misfit_of_scriptd rows = or_else (misfit_of_calls rows) (misfit_of_records rows)

-- the borrowed texts of a line
abbrev pub scriptd_of : ScriptdLine → Scriptd
scriptd_of line = record {
  socket = line.socket.now;
  scripts = line.scripts.now;
  profiles = line.profiles.now;
  calls = line.calls;
  baseline = option_map (λ w. w.now) line.baseline;
  runners = line.runners;
  records = option_map (λ w. w.now) line.records;
  records_all = line.records_all;
  verbose = line.verbose;
}
