-- Differences as JSON objects (RFC 8259), one per line, this project's own: docs/SEMANTICS.md, "Programs". No
-- text of these has a byte that JSON would escape.
use Rattle.std.specs.Prelude.{ℕ, List, [], ◌∷◌, ◌++◌, codes, Option, Some, None}
use Rattle.action.specs.Shown.{value_members, value_object}
use Rattle.bpf_compare.specs.declared.scope.Calls.{Calls}
use Rattle.call_names.specs.Words.{call_members}
use Rattle.seccheck_output.specs.Compared.{reason_of}
use Rattle.seccheck_output.specs.Objects.{same_object}
use Rattle.explain.specs.declared.explanation.Decider.{Decider}
use Rattle.explain.specs.Text.{decider_text}
use Rattle.seccheck_differences.specs.declared.line.Line.{Line}
use Rattle.seccheck_differences.specs.declared.line.Line.TheVariants.{Differs, Undecided}
use Rattle.seccheck_differences.specs.declared.line.SideAnswer.{SideAnswer}
use Rattle.seccheck_differences.specs.Texts.{part_text}
use Rattle.sys_table.specs.declared.calls.CallTable.{CallTable}

-- a value, its action and data, and what of a profile decides
abbrev pub decided_object : Option Decider → ℕ → List ℕ
decided_object None value = value_object value
decided_object (Some decider) value =
    codes "{" ++ (value_members value ++ (codes ",\"by\":\"" ++ (decider_text decider ++ codes "\"}")))

abbrev pub side_object : SideAnswer → List ℕ
side_object answer = decided_object answer.decider answer.value

abbrev pub line_object : CallTable → Line → List ℕ
line_object known (Differs part call one other) =
    codes "{\"answer\":\"differ\",\"calls\":\"" ++ (part_text known part ++ (codes "\"," ++ (call_members call
    ++ (codes ",\"first\":" ++ (side_object one ++ (codes ",\"second\":" ++ (side_object other
    ++ codes "}")))))))
line_object known (Undecided part why) =
    codes "{\"answer\":\"undecided\",\"calls\":\"" ++ (part_text known part ++ (codes "\",\"reason\":\""
    ++ (reason_of why ++ codes "\"}")))

abbrev pub lines_objects : CallTable → List Line → List ℕ
lines_objects known [] = []
lines_objects known (line ∷ lines) = line_object known line ++ (codes "\n" ++ lines_objects known lines)

-- the answer: an object for each line, or that there is none
abbrev pub answer_objects : CallTable → Calls → List Line → List ℕ
answer_objects known calls [] = same_object calls
answer_objects known calls (line ∷ lines) = lines_objects known (line ∷ lines)
