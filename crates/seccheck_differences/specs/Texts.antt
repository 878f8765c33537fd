-- The printed lines of differences, this project's own: docs/SEMANTICS.md, "Programs".
use Rattle.std.specs.Prelude.{ℕ, List, [], ◌∷◌, ◌++◌, ◌==◌, if◌then◌else◌, codes, Option, Some, None}
use Rattle.std.specs.Fmt.{decimal}
use Rattle.bpf_compare.specs.declared.scope.Calls.{Calls}
use Rattle.call_names.specs.declared.naming.Naming.TheVariants as naming
use Rattle.call_names.specs.Text.{call_text}
use Rattle.call_names.specs.Words.{words_text}
use Rattle.seccheck_output.specs.Compared.{reason_of, same_text, value_text}
use Rattle.explain.specs.declared.explanation.Decider.{Decider}
use Rattle.explain.specs.Text.{decided_text}
use Rattle.filter_differences.specs.declared.part.Part.{Part}
use Rattle.filter_differences.specs.declared.part.Part.TheVariants.{Numbers, Later, X32, OtherArchitectures}
use Rattle.seccheck_differences.specs.declared.line.Line.{Line}
use Rattle.seccheck_differences.specs.declared.line.Line.TheVariants.{Differs, Undecided}
use Rattle.seccheck_differences.specs.declared.line.SideAnswer.{SideAnswer}
use Rattle.sys_table.specs.SysTable.{limit_of}
use Rattle.sys_table.specs.declared.calls.CallTable.{CallTable}

-- the name of one of the known calls, or numbers without names
unfoldable pub numbers_text : CallTable → ℕ → ℕ → List ℕ
numbers_text known low high = if low == high then call_text (naming.Name known) low
    else decimal low ++ (codes " to " ++ decimal high)

-- the calls that are meant
abbrev pub part_text : CallTable → Part → List ℕ
part_text known (Numbers low high) = numbers_text known low high
part_text known Later = decimal (limit_of known) ++ codes " and above"
part_text known X32 = codes "x32"
part_text known OtherArchitectures = codes "other architectures"

-- a filter's value with its eight digits, and a profile's decision as `explain` prints it
abbrev pub answer_by : Option Decider → ℕ → List ℕ
answer_by None value = value_text value
answer_by (Some decider) value = decided_text value decider

abbrev pub side_text : SideAnswer → List ℕ
side_text answer = answer_by answer.decider answer.value

abbrev pub line_text : CallTable → Line → List ℕ
line_text known (Differs part call one other) =
    part_text known part ++ (codes ": " ++ (side_text one ++ (codes ", " ++ (side_text other ++ (codes " at "
    ++ words_text known call)))))
line_text known (Undecided part why) = part_text known part ++ (codes ": undecided: " ++ reason_of why)

abbrev pub lines_text : CallTable → List Line → List ℕ
lines_text known [] = []
lines_text known (line ∷ lines) = line_text known line ++ (codes "\n" ++ lines_text known lines)

-- the answer: the lines, or that there is none
abbrev pub answer_text : CallTable → Calls → List Line → List ℕ
answer_text known calls [] = same_text calls
answer_text known calls (line ∷ lines) = lines_text known (line ∷ lines)
