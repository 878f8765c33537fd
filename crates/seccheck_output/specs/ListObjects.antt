-- JSON objects (RFC 8259), one per line, for each item of a list, this project's own: docs/SEMANTICS.md,
-- "Programs".
use Rattle.std.specs.Prelude.{ℕ, ◌+◌, List, [], ◌++◌, slice_index_or, codes}
use Rattle.std.specs.Prelude.{Bool, true, false, Option, Some, None}
use Rattle.std.specs.Fmt.{decimal}
use Rattle.serde_json.specs.Data.{string}
use Rattle.serde_json.specs.Written.{compact_text}
use Rattle.action.specs.Verdict.{name_of}
use Rattle.bpf_code.specs.declared.insn.Insn.{Insn}
use Rattle.bpf_code.specs.declared.flow.Flow.{Flow}
use Rattle.bpf_code.specs.declared.flow.Flow.TheVariants.{Returns, Jumps, Branches, Continues}
use Rattle.bpf_code.specs.Flow.{flow_of}
use Rattle.bpf_code.specs.Text.{text_of}
use Rattle.call_names.specs.declared.naming.Naming.{Naming}
use Rattle.call_names.specs.declared.naming.Naming.TheVariants.{Number, Name}
use Rattle.manifest.specs.declared.containers.Container.{Container}
use Rattle.manifest.specs.declared.pods.Pod.{Pod}
use Rattle.manifest.specs.declared.profiles.SeccompProfile.{SeccompProfile}
use Rattle.manifest.specs.declared.profiles.SeccompProfile.TheVariants.{RuntimeDefault, Localhost, Unconfined}
use Rattle.profile_pick.specs.Choice.{choice_of}
use Rattle.runtime_cell.specs.declared.calls.JudgedCall.{JudgedCall}
use Rattle.runtime_cell.specs.Outcome.{Outcome}
use Rattle.sys_table.specs.SysTable.{name_in}
use Rattle.sys_table.specs.declared.calls.CallTable.{CallTable}
use Rattle.seccheck_output.specs.LineText.{outcome_text}
use Rattle.seccheck_output.specs.Texts.{lines_text}

-- the name, if there is one
abbrev pub name_or_number : Option (List ℕ) → ℕ → List ℕ
name_or_number None nr = decimal nr
name_or_number (Some name) nr = codes "\"" ++ (name ++ codes "\"")

-- a call as a number, or by its name
abbrev pub call_value : Naming → ℕ → List ℕ
call_value Number nr = decimal nr
call_value (Name calls) nr = name_or_number (name_in calls nr) nr

-- its step's place, the call, the verdict's action and data, and whether it was performed
abbrev pub entry_object : Naming → ℕ → JudgedCall → List ℕ
entry_object naming place entry =
    codes "{\"place\":" ++ (decimal place ++ (codes ",\"call\":" ++ (call_value naming entry.call.nr
    ++ (codes ",\"action\":\"" ++ (name_of entry.verdict.action ++ (codes "\",\"data\":"
    ++ (decimal entry.verdict.ret_data ++ (codes ",\"outcome\":\"" ++ (outcome_text entry.performed
    ++ codes "\"}")))))))))

-- an object for each judged call, and one for the end
abbrev pub record_objects : Naming → Outcome → List ℕ
record_objects naming outcome = lines_text (entry_object naming) 0 outcome.entries ++ codes "{\"exit\":"
    ++ decimal outcome.code ++ codes "}\n"

-- the targets of a jump; of a conditional one, first if its test holds, then if it fails; empty for others
abbrev pub arrow_member : Flow → ℕ → Insn → List ℕ
arrow_member Jumps place insn = codes ",\"to\":[" ++ (decimal (place + 1 + insn.k) ++ codes "]")
arrow_member Branches place insn = codes ",\"to\":[" ++ (decimal (place + 1 + insn.jt) ++ (codes ","
    ++ (decimal (place + 1 + insn.jf) ++ codes "]")))
arrow_member Returns place insn = []
arrow_member Continues place insn = []

abbrev pub name_member : Option (List ℕ) → List ℕ
name_member None = []
name_member (Some name) = codes ",\"name\":\"" ++ (name ++ codes "\"")

-- the name of the number in a comparison of the call's number, if it is one of these calls
abbrev pub comment_member : CallTable → Bool → ℕ → List ℕ
comment_member calls true nr = name_member (name_in calls nr)
comment_member calls false nr = []

abbrev pub commented_object : CallTable → Bool → ℕ → Insn → List ℕ
commented_object calls is_number_test place insn =
    codes "{\"place\":" ++ (decimal place ++ (codes ",\"instruction\":\"" ++ (text_of insn ++ (codes "\""
    ++ (arrow_member (flow_of insn.op) place insn ++ (comment_member calls is_number_test insn.k ++ codes "}"))))))

-- an instruction, given which ones compare the call's number
abbrev pub insn_object : CallTable → List Bool → ℕ → Insn → List ℕ
insn_object calls number_tests place insn =
    commented_object calls (slice_index_or number_tests place false) place insn

-- the instructions of a file
abbrev pub code_objects : CallTable → List Bool → List Insn → List ℕ
code_objects calls number_tests code = lines_text (insn_object calls number_tests) 0 code

abbrev pub profile_members : SeccompProfile → List ℕ
profile_members RuntimeDefault = codes "\"RuntimeDefault\""
profile_members (Localhost path) = codes "\"Localhost\",\"path\":" ++ compact_text (string path)
profile_members Unconfined = codes "\"Unconfined\""

abbrev pub container_object : Option SeccompProfile → Bool → ℕ → Container → List ℕ
container_object of_pod seccomp_default place container =
    codes "{\"container\":\"" ++ (container.name ++ (codes "\",\"profile\":"
    ++ (profile_members (choice_of of_pod container seccomp_default) ++ codes "}")))

-- the profile of each container of a pod, init ones first
abbrev pub picked_objects : Pod → Bool → List ℕ
picked_objects pod seccomp_default = lines_text (container_object pod.profile seccomp_default) 0
    pod.containers.all
