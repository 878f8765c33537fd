-- The output for a filter, this project's own: docs/SEMANTICS.md, "Programs".
use Rattle.std.specs.Prelude.{ℕ, ◌+◌, ◌-◌, List, [], ◌∷◌, ◌++◌, length, replicate, slice_index_or, codes}
use Rattle.std.specs.Prelude.{Bool, true, false, Option, Some, None}
use Rattle.std.specs.Fmt.{decimal, digits}
use Rattle.action.specs.Verdict.{name_of}
use Rattle.bpf_code.specs.declared.insn.Insn.{Insn}
use Rattle.bpf_code.specs.declared.flow.Flow.{Flow}
use Rattle.bpf_code.specs.declared.flow.Flow.TheVariants.{Returns, Jumps, Branches, Continues}
use Rattle.bpf_code.specs.Flow.{flow_of}
use Rattle.bpf_code.specs.Text.{text_of}
use Rattle.sys_table.specs.SysTable.{name_in}
use Rattle.sys_table.specs.declared.calls.CallTable.{CallTable}
use Rattle.seccheck_output.specs.declared.judging.Judged.{Judged}

-- eight hexadecimal digits, for a number below 2^32
abbrev pub eight_digits : ℕ → List ℕ
eight_digits n = replicate (8 - length (digits 16 false n)) 48 ++ digits 16 false n

-- the value, its action and data, and the steps
abbrev pub judged_text : Judged → List ℕ
judged_text judged =
    eight_digits judged.value ++ (codes " " ++ (name_of judged.verdict.action ++ (codes " "
    ++ (decimal judged.verdict.ret_data ++ (codes " steps " ++ decimal judged.steps)))))

-- the answer for a sound filter of this many instructions
abbrev pub accepted_text : ℕ → List ℕ
accepted_text count = codes "accepted " ++ decimal count ++ codes " instructions\n"

-- the answer for a profile's filter, of this many instructions
abbrev pub compiled_text : ℕ → List ℕ
compiled_text count = codes "compiled " ++ decimal count ++ codes " instructions\n"

-- the most instructions that a run takes
abbrev pub longest_text : ℕ → List ℕ
longest_text most = codes "longest " ++ decimal most ++ codes "\n"

-- the targets of a jump; of a conditional one, first if its test holds, then if it fails; empty for others
abbrev pub arrow_text : Flow → ℕ → Insn → List ℕ
arrow_text Jumps place insn = codes " -> " ++ decimal (place + 1 + insn.k)
arrow_text Branches place insn = codes " -> " ++ decimal (place + 1 + insn.jt) ++ codes ", "
    ++ decimal (place + 1 + insn.jf)
arrow_text Returns place insn = []
arrow_text Continues place insn = []

-- an instruction, with its place before it and its targets after it
abbrev pub insn_text : ℕ → Insn → List ℕ
insn_text place insn = decimal place ++ codes ": " ++ text_of insn ++ arrow_text (flow_of insn.op) place insn

-- one line per item, each with its place
abbrev pub lines_text : {A : Type 0} → (ℕ → A → List ℕ) → ℕ → List A → List ℕ
lines_text line place [] = []
lines_text line place (x ∷ xs) = line place x ++ codes "\n" ++ lines_text line (place + 1) xs

-- the name of a call
abbrev pub comment_of : Option (List ℕ) → List ℕ
comment_of None = []
comment_of (Some name) = codes " ; " ++ name

-- after a comparison of the call's number, the name of that number, if it is one of these calls
abbrev pub comment_text : CallTable → Bool → ℕ → List ℕ
comment_text calls true nr = comment_of (name_in calls nr)
comment_text calls false nr = []

abbrev pub commented_text : CallTable → Bool → ℕ → Insn → List ℕ
commented_text calls is_number_test place insn =
    insn_text place insn ++ comment_text calls is_number_test insn.k

-- an instruction, given which ones compare the call's number
abbrev pub line_text : CallTable → List Bool → ℕ → Insn → List ℕ
line_text calls number_tests place insn =
    commented_text calls (slice_index_or number_tests place false) place insn

-- the instructions of a file
abbrev pub code_text : CallTable → List Bool → List Insn → List ℕ
code_text calls number_tests code = lines_text (line_text calls number_tests) 0 code
