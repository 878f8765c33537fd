-- What stops the program where two filters are compared, and what is said beside the answer, this project's
-- own: docs/SEMANTICS.md, "Programs".
use Rattle.std.specs.Prelude.{ℕ, Bool, true, false, ◌&&◌, if◌then◌else◌, ⊤, List, [], codes, Result, Ok, Err}
use Rattle.std.specs.List.{list_any}
use Rattle.sys_table.specs.declared.calls.CallTable.{CallTable}
use Rattle.bpf_compare.specs.declared.comparison.Comparison.{Comparison}
use Rattle.bpf_compare.specs.declared.comparison.Comparison.TheVariants.{Same, Differs, Undecided}
use Rattle.bpf_compare.specs.declared.comparison.Doubt.TheVariants.{Budget}
use Rattle.seccheck_differences.specs.declared.line.Line.{Line}
use Rattle.seccheck_differences.specs.declared.line.Line.TheVariants as line
use Rattle.seccheck_stops.specs.declared.stop.Stop.{Stop}
use Rattle.seccheck_stops.specs.declared.stop.Stop.TheVariants as why

abbrev pub told_of : CallTable → Comparison → Result ⊤ Stop
told_of known Same = Ok tt
told_of known (Differs call first second) = Err
    (why.Differ (record { known = known; call = call; first = first; second = second }))
told_of known (Undecided doubt) = Err (why.Undecided doubt)

-- how many instructions are followed at most without --budget, with --all for each part
abbrev pub default_budget : Bool → ℕ
default_budget true = 300000
default_budget false = 100000000

abbrev pub note_of : Bool → List ℕ
note_of is_beyond =
    if is_beyond then codes "seccheck: the budget is used up; --budget N follows more instructions\n" else []

-- whether more instructions would have to be followed
abbrev pub stops_beyond : Stop → Bool
stops_beyond (why.Undecided Budget) = true
stops_beyond stop = false

abbrev pub budget_note : Stop → List ℕ
budget_note stop = note_of (stops_beyond stop)

abbrev pub is_beyond : Line → Bool
is_beyond (line.Undecided part Budget) = true
is_beyond it = false

-- only a command that has --budget speaks of it
abbrev pub lines_note : Bool → List Line → List ℕ
lines_note takes_budget lines = note_of (takes_budget && list_any is_beyond lines)
