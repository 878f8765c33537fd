-- The words of a report for actions and for what decides, this project's own: docs/SEMANTICS.md, "A report".
use Rattle.std.specs.Prelude.{ℕ, nat_lt, if◌then◌else◌, List, ◌++◌, codes}
use Rattle.std.specs.Fmt.{decimal}
use Rattle.action.specs.declared.action.Action.{Action}
use Rattle.action.specs.declared.action.Action.TheVariants.{KillProcess, KillThread, Trap, Errno, UserNotif}
use Rattle.action.specs.declared.action.Action.TheVariants.{Trace, Log, Allow}
use Rattle.action.specs.Shown.{value_text}
use Rattle.action.specs.Verdict.{verdict_of}
use Rattle.explain.specs.declared.explanation.Decider.{Decider}
use Rattle.explain.specs.declared.explanation.Decider.TheVariants as by
use Rattle.profile_report.specs.declared.words.TheConstants.{SHOWN_ENTRIES}

-- a letter for each action, so that no colour is needed
abbrev pub letter_of : Action → List ℕ
letter_of KillProcess = codes "K"
letter_of KillThread = codes "H"
letter_of Trap = codes "T"
letter_of Errno = codes "E"
letter_of UserNotif = codes "N"
letter_of Trace = codes "R"
letter_of Log = codes "L"
letter_of Allow = codes "A"

-- the letter of a filter's value
abbrev pub letter_in : ℕ → List ℕ
letter_in value = letter_of (verdict_of value).action

-- the place of an entry, with a link to the entry if it is shown
unfoldable pub entry_link : ℕ → List ℕ
entry_link place =
    if nat_lt place SHOWN_ENTRIES then codes "<a href=\"#e" ++ (decimal place ++ (codes "\">syscalls["
    ++ (decimal place ++ codes "]</a>")))
    else codes "syscalls[" ++ (decimal place ++ codes "]")

abbrev pub link_text : Decider → List ℕ
link_text by.Architecture = codes "the architecture"
link_text by.X32Bit = codes "the x32 bit"
link_text (by.Entry place) = entry_link place
link_text by.Default = codes "<a href=\"#default\">defaultAction</a>"

-- what decides, with a link
abbrev pub linked_text : ℕ → Decider → List ℕ
linked_text value decider = value_text value ++ (codes " by " ++ link_text decider)
