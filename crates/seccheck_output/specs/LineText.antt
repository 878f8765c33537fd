-- A judged call as it is printed, this project's own: docs/SEMANTICS.md, "Programs".
use Rattle.std.specs.Prelude.{ℕ, List, ◌++◌, codes, Bool, true, false}
use Rattle.std.specs.Fmt.{decimal}
use Rattle.action.specs.Verdict.{name_of}
use Rattle.call_names.specs.declared.naming.Naming.{Naming}
use Rattle.call_names.specs.Text.{call_text}
use Rattle.runtime_cell.specs.declared.calls.JudgedCall.{JudgedCall}
use Rattle.runtime_cell.specs.Outcome.{Outcome}
use Rattle.seccheck_output.specs.Texts.{lines_text}

abbrev pub outcome_text : Bool → List ℕ
outcome_text true = codes "performed"
outcome_text false = codes "denied"

-- its step's place, the call by its number or name, the verdict's action and data, and whether it was
-- performed
abbrev pub entry_text : Naming → ℕ → JudgedCall → List ℕ
entry_text naming place entry =
    decimal place ++ codes " " ++ call_text naming entry.call.nr ++ codes " " ++ name_of entry.verdict.action
    ++ codes " "
    ++ decimal entry.verdict.ret_data ++ codes " " ++ outcome_text entry.performed

-- a line for each judged call, and one for the end
abbrev pub record_text : Naming → Outcome → List ℕ
record_text naming outcome = lines_text (entry_text naming) 0 outcome.entries ++ codes "exit "
    ++ decimal outcome.code ++ codes "\n"
