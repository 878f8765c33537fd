-- How many calls have each action, as the key to the letters: this project's own, docs/SEMANTICS.md, "A report".
use Rattle.std.specs.Prelude.{ℕ, ◌+◌, ◌==◌, Bool, if◌then◌else◌, List, [], ◌∷◌, ◌++◌, codes}
use Rattle.std.specs.Fmt.{decimal}
use Rattle.action.specs.declared.action.Action.{Action}
use Rattle.action.specs.declared.action.Action.TheVariants.{KillProcess, KillThread, Trap, Errno, UserNotif}
use Rattle.action.specs.declared.action.Action.TheVariants.{Trace, Log, Allow}
use Rattle.action.specs.Verdict.{name_of, rank_of, verdict_of}
use Rattle.profile_table.specs.declared.row.Row.{Row}
use Rattle.profile_report.specs.Words.{letter_of}

-- whether the row's calls have this action, where no entry with conditions decides
abbrev pub has_action : Action → Row → Bool
has_action action row = rank_of (verdict_of row.value).action == rank_of action

-- how many rows have this action
abbrev pub counted : Action → List Row → ℕ
counted action [] = 0
counted action (row ∷ rows) = if has_action action row then 1 + counted action rows else counted action rows

-- a letter, its action, and how many calls have it
unfoldable pub tally_html : Action → ℕ → List ℕ
tally_html action count = codes "<li class=\"" ++ (letter_of action ++ (codes "\"><b>" ++ (letter_of action
    ++ (codes "</b> " ++ (name_of action ++ (codes " " ++ (decimal count ++ codes "</li>\n")))))))

abbrev pub tally_of : List Row → Action → List ℕ
tally_of rows action = tally_html action (counted action rows)

-- the letters of two actions
unfoldable pub pair_html : List Row → Action → Action → List ℕ
pair_html rows one other = tally_of rows one ++ tally_of rows other

-- the mildest action first
unfoldable pub tallies_html : List Row → List ℕ
tallies_html rows =
    pair_html rows Allow Log ++ (pair_html rows Errno Trace ++ (pair_html rows UserNotif Trap
    ++ pair_html rows KillThread KillProcess))
