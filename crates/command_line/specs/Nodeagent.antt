-- The line `nodeagent --socket PATH [--with-runtime] [--scripts DIR] [--profiles DIR] [--calls V]
-- [--baseline FILTER] [--seccomp-default] [--records FILE] [--records-all] [--workers N] [--settle] [--until S] [--cri N]
-- [--history N] [--pods DIR] [--run NAME] [--state FILE] [--remove] [--reasons] [--counts] [--fail] [--watch]
-- [--json] [--verbose] [MANIFEST]..`, this project's own: docs/SEMANTICS.md, "Programs".
use Rattle.std.specs.Prelude.{ℕ, ◌^◌, ◌&&◌, List, Bool, not, if◌then◌else◌, codes, map, Option, Some, None}
use Rattle.std.specs.Prelude.{Result, Ok, Err, option_map}
use Rattle.clap.specs.Simple.{App, new_app, with_rule}
use Rattle.clap.specs.Walk.{Row, first_of}
use Rattle.command_line.specs.Arguments.{flag_rule, folder_of, has_words, is_set, is_there, option_rule}
use Rattle.command_line.specs.Arguments.{versioned, word_of, words_of, words_rule}
use Rattle.sys_table.specs.declared.calls.CallTable.{CallTable}
use Rattle.command_line.specs.Scriptd.{calls_in, misfit_of_scriptd, or_else, recording, serving}
use Rattle.command_line.specs.Words.{written_if_there, written_within}
use Rattle.command_line.specs.declared.fault.Misfit.{Misfit}
use Rattle.command_line.specs.declared.fault.Misfit.TheVariants.{WithoutRuntime, WithoutSettle, WithSettle}
use Rattle.command_line.specs.declared.fault.Misfit.TheVariants.{WithoutPods, NothingToTell, Missing}
use Rattle.command_line.specs.declared.nodeagent.NodeagentLine.{NodeagentLine}
use Rattle.command_line.specs.declared.nodeagent.Numbers.{Numbers}

-- the command line, to clap
abbrev pub choosing : App → App
choosing app = with_rule (with_rule app (flag_rule (codes "with-runtime")))
    (flag_rule (codes "seccomp-default"))

abbrev pub settling : App → App
settling app = with_rule (with_rule (with_rule app (option_rule (codes "workers")))
    (flag_rule (codes "settle"))) (option_rule (codes "until"))

abbrev pub speaking : App → App
speaking app = with_rule (with_rule app (option_rule (codes "cri"))) (option_rule (codes "history"))

abbrev pub coming : App → App
coming app = with_rule (with_rule (with_rule app (option_rule (codes "pods"))) (option_rule (codes "run")))
    (option_rule (codes "state"))

abbrev pub ending : App → App
ending app =
    with_rule (with_rule (with_rule (with_rule app (flag_rule (codes "remove"))) (flag_rule (codes "reasons")))
    (flag_rule (codes "counts"))) (flag_rule (codes "fail"))

abbrev pub telling : App → App
telling app = with_rule (with_rule app (flag_rule (codes "watch"))) (flag_rule (codes "json"))

abbrev pub naming : App → App
naming app = with_rule (with_rule app (flag_rule (codes "verbose"))) (words_rule (codes "MANIFEST"))

abbrev pub working : App → App
working app = speaking (settling (recording (choosing (serving app))))

abbrev pub running : App → App
running app = naming (telling (ending (coming (working app))))

unfoldable pub nodeagent : App
nodeagent = running (versioned (new_app (codes "nodeagent")))

-- its numbers, looked at in the order of the line
abbrev pub numbers_of : Result ℕ (List ℕ) → Result (Option ℕ) (List ℕ) → Result ℕ (List ℕ) → Result ℕ (List ℕ)
    → Result Numbers (List ℕ)
numbers_of (Err word) until cri history = Err word
numbers_of (Ok workers) (Err word) cri history = Err word
numbers_of (Ok workers) (Ok until) (Err word) history = Err word
numbers_of (Ok workers) (Ok until) (Ok cri) (Err word) = Err word
numbers_of (Ok workers) (Ok until) (Ok cri) (Ok history) =
    Ok (record { workers = workers; until = until; cri = cri; history = history })

-- workers from 1 to 64, by default 4; the version 1 or 2, by default 2; from 1,024 to 1,048,576 entries, by
-- default 65,536
abbrev pub numbers_in : List Row → Result Numbers (List ℕ)
numbers_in rows =
    numbers_of (written_within 1 64 4 (first_of (codes "workers") rows))
    (written_if_there (2 ^ 64) (first_of (codes "until") rows))
    (written_within 1 2 2 (first_of (codes "cri") rows))
    (written_within 1024 1048576 65536 (first_of (codes "history") rows))

-- the values of a line
pub record Nodeagent : Type 0 where
  pub socket : List ℕ
  pub with_runtime : Bool
  pub scripts : List ℕ
  pub profiles : List ℕ
  pub calls : CallTable
  pub baseline : Option (List ℕ)
  pub seccomp_default : Bool
  pub records : Option (List ℕ)
  pub records_all : Bool
  pub numbers : Numbers
  pub settle : Bool
  pub pods : Option (List ℕ)
  pub run : Option (List ℕ)
  pub state : Option (List ℕ)
  pub remove : Bool
  pub reasons : Bool
  pub counts : Bool
  pub fail : Bool
  pub watch : Bool
  pub json : Bool
  pub verbose : Bool
  pub manifests : List (List ℕ)

abbrev pub nodeagent_with : List Row → Result Numbers (List ℕ) → Result Nodeagent (List ℕ)
nodeagent_with rows (Err word) = Err word
nodeagent_with rows (Ok numbers) = Ok (record {
  socket = word_of (codes "socket") rows;
  with_runtime = is_set (codes "with-runtime") rows;
  scripts = folder_of (codes "scripts") rows;
  profiles = folder_of (codes "profiles") rows;
  calls = calls_in rows;
  baseline = first_of (codes "baseline") rows;
  seccomp_default = is_set (codes "seccomp-default") rows;
  records = first_of (codes "records") rows;
  records_all = is_set (codes "records-all") rows;
  numbers = numbers;
  settle = is_set (codes "settle") rows;
  pods = first_of (codes "pods") rows;
  run = first_of (codes "run") rows;
  state = first_of (codes "state") rows;
  remove = is_set (codes "remove") rows;
  reasons = is_set (codes "reasons") rows;
  counts = is_set (codes "counts") rows;
  fail = is_set (codes "fail") rows;
  watch = is_set (codes "watch") rows;
  json = is_set (codes "json") rows;
  verbose = is_set (codes "verbose") rows;
  manifests = words_of (codes "MANIFEST") rows;
})

abbrev pub settles : List Row → Bool
settles rows = is_set (codes "settle") rows

-- with --with-runtime a runtime is beside the agent, which reads scripts and profiles, and writes records
abbrev pub reads_nothing : List ℕ → List Row → Bool
reads_nothing option rows = not (is_set (codes "with-runtime") rows) && is_there option rows

abbrev pub misfit_of_runtime : List Row → Option (List ℕ × Misfit)
misfit_of_runtime rows =
    if reads_nothing (codes "scripts") rows then Some (codes "--scripts", WithoutRuntime)
    else if reads_nothing (codes "profiles") rows then Some (codes "--profiles", WithoutRuntime)
    else if reads_nothing (codes "calls") rows then Some (codes "--calls", WithoutRuntime)
    else if reads_nothing (codes "records") rows then Some (codes "--records", WithoutRuntime)
    else None

-- a run that ends once its pods are over has no use for pods that come later, nor for a file of them; the
-- file keeps the pods of a folder
abbrev pub misfit_of_folder : List Row → Option (List ℕ × Misfit)
misfit_of_folder rows =
    if settles rows && is_there (codes "pods") rows then Some (codes "--pods", WithSettle)
    else if settles rows && is_there (codes "state") rows then Some (codes "--state", WithSettle)
    else if not (is_there (codes "pods") rows) && is_there (codes "state") rows
    then Some (codes "--state", WithoutPods)
    else None

-- a run that ends once its pods are over prints no changes meanwhile; one that goes on prints no table, and
-- has no end at which pods are removed or looked at
abbrev pub misfit_of_end : List Row → Option (List ℕ × Misfit)
misfit_of_end rows =
    if not (settles rows) && is_set (codes "remove") rows then Some (codes "--remove", WithoutSettle)
    else if not (settles rows) && (not (is_set (codes "watch") rows) && is_set (codes "reasons") rows)
    then Some (codes "--reasons", WithoutSettle)
    else if not (settles rows) && (not (is_set (codes "watch") rows) && is_set (codes "counts") rows)
    then Some (codes "--counts", WithoutSettle)
    else if not (settles rows) && is_set (codes "fail") rows then Some (codes "--fail", WithoutSettle)
    else if settles rows && is_set (codes "watch") rows then Some (codes "--watch", WithSettle)
    else if not (settles rows) && (not (is_set (codes "watch") rows) && is_set (codes "json") rows)
    then Some (codes "--json", NothingToTell)
    else None

-- the pods are those of manifests, of a folder, or of both
abbrev pub misfit_of_pods : List Row → Option (List ℕ × Misfit)
misfit_of_pods rows =
    if not (is_there (codes "pods") rows) && not (has_words (codes "MANIFEST") rows)
    then Some (codes "MANIFEST", Missing)
    else None

abbrev pub misfit_of_rest : List Row → Option (List ℕ × Misfit)
misfit_of_rest rows = or_else (misfit_of_end rows) (misfit_of_pods rows)

-- the first word, in the order of the line, that does not go with the others
abbrev pub misfit_in : List Row → Option (List ℕ × Misfit)
misfit_in rows =
    or_else (misfit_of_runtime rows) (or_else (misfit_of_scriptd rows) (or_else (misfit_of_folder rows)
    (misfit_of_rest rows)))

-- the values of a line by its matches, or the first word that is not a number in its range
abbrev pub nodeagent_in : List Row → Result Nodeagent (List ℕ)
nodeagent_in rows = nodeagent_with rows (numbers_in rows)

-- the borrowed texts of a line
abbrev pub nodeagent_of : NodeagentLine → Nodeagent
nodeagent_of line = record {
  socket = line.socket.now;
  with_runtime = line.with_runtime;
  scripts = line.scripts.now;
  profiles = line.profiles.now;
  calls = line.calls;
  baseline = option_map (λ w. w.now) line.baseline;
  seccomp_default = line.seccomp_default;
  records = option_map (λ w. w.now) line.records;
  records_all = line.records_all;
  numbers = line.numbers;
  settle = line.settle;
  pods = option_map (λ w. w.now) line.pods;
  run = option_map (λ w. w.now) line.run;
  state = option_map (λ w. w.now) line.state;
  remove = line.remove;
  reasons = line.reasons;
  counts = line.counts;
  fail = line.fail;
  watch = line.watch;
  json = line.json;
  verbose = line.verbose;
  manifests = map (λ w. w.now) line.manifests.items;
}
