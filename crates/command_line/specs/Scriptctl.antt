-- The line `scriptctl --socket PATH [--json] COMMAND UID..`, this project's own: docs/SEMANTICS.md,
-- "Programs".
use Rattle.std.specs.Prelude.{◌≡◌, ◌⊎◌, ℕ, if◌then◌else◌, List, [], ◌∷◌, codes, map, Option, Some, None}
use Rattle.std.specs.Str.{bytes_eq}
use Rattle.clap.specs.Kinds.{Kinds}
use Rattle.clap.specs.Simple.{App, new_app, with_rule}
use Rattle.clap.specs.Walk.{Row}
use Rattle.command_line.specs.Arguments.{flag_rule, is_set, required_rule, versioned, word_of, words_of}
use Rattle.command_line.specs.Arguments.{words_rule}
use Rattle.command_line.specs.Faults.{IsRefusal}
use Rattle.command_line.specs.declared.fault.LineFault.{LineFault}
use Rattle.command_line.specs.declared.fault.LineFault.TheVariants.{BadNumber, UnknownCommand}
use Rattle.command_line.specs.declared.fault.LineFault.TheVariants.{Misfit as Unfit}
use Rattle.command_line.specs.declared.fault.Misfit.{Misfit}
use Rattle.command_line.specs.declared.fault.Misfit.TheVariants.{Missing}
use Rattle.command_line.specs.declared.scriptctl.PodCommand.{PodCommand}
use Rattle.command_line.specs.declared.scriptctl.PodCommand.TheVariants.{Ps, Stop, Rm}
use Rattle.command_line.specs.declared.scriptctl.ScriptctlLine.{ScriptctlLine}

-- the command line, to clap
abbrev pub reaching : App → App
reaching app = with_rule (with_rule app (required_rule (codes "socket"))) (flag_rule (codes "json"))

abbrev pub asking : App → App
asking app = with_rule (reaching app) (words_rule (codes "COMMAND"))

unfoldable pub scriptctl : App
scriptctl = asking (versioned (new_app (codes "scriptctl")))

abbrev pub command_named : List ℕ → Option PodCommand
command_named word =
    if bytes_eq word (codes "ps") then Some Ps
    else if bytes_eq word (codes "stop") then Some Stop
    else if bytes_eq word (codes "rm") then Some Rm
    else None

-- the positional words: a command, followed by at least one uid
pub data Spoken : Type 0 where
  NoCommand : Spoken
  Unknown : List ℕ → Spoken
  NoPods : Spoken
  Asks : PodCommand → List (List ℕ) → Spoken

abbrev pub spoken_of : List ℕ → List (List ℕ) → Option PodCommand → Spoken
spoken_of word uids None = Unknown word
spoken_of word [] (Some command) = NoPods
spoken_of word (uid ∷ uids) (Some command) = Asks command (uid ∷ uids)

abbrev pub spoken : List (List ℕ) → Spoken
spoken [] = NoCommand
spoken (word ∷ uids) = spoken_of word uids (command_named word)

abbrev pub spoken_in : List Row → Spoken
spoken_in rows = spoken (words_of (codes "COMMAND") rows)

-- the values of a line
pub record IsScriptctl (rows : List Row) (line : ScriptctlLine) : Type 0 where
  pub socket : line.socket.now ≡ word_of (codes "socket") rows
  pub json : line.json ≡ is_set (codes "json") rows
  pub asks : spoken_in rows ≡ Asks line.command (map (λ w. w.now) line.uids.items)

-- which word is missing
abbrev pub IsMissing : Spoken → List ℕ → Misfit → Type 0
IsMissing spoken word why = (why ≡ Missing) × (((spoken ≡ NoCommand) × (word ≡ codes "COMMAND"))
    ⊎ ((spoken ≡ NoPods) × (word ≡ codes "UID")))

-- if clap takes the words, the word that is missing or is not a command is reported
abbrev pub TellsSpoken : Kinds → Spoken → LineFault → Type 0
TellsSpoken kinds spoken (Unfit word why) = (kinds ≡ []) × IsMissing spoken word.now why
TellsSpoken kinds spoken (UnknownCommand word) = (kinds ≡ []) × (spoken ≡ Unknown word.now)
TellsSpoken kinds spoken (BadNumber word) = ⊥
TellsSpoken kinds spoken fault = IsRefusal kinds fault
