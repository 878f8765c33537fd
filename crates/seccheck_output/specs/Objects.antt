-- Answers as JSON objects (RFC 8259), one per line, this project's own: docs/SEMANTICS.md, "Programs". No
-- text of these has a byte that JSON would escape.
use Rattle.std.specs.Prelude.{ℕ, List, ◌++◌, codes}
use Rattle.std.specs.Fmt.{decimal}
use Rattle.action.specs.Shown.{value_object}
use Rattle.action.specs.Verdict.{name_of}
use Rattle.bpf_compare.specs.declared.scope.Calls.{Calls}
use Rattle.bpf_compare.specs.declared.scope.Calls.TheVariants.{Every, Native}
use Rattle.call_names.specs.Words.{call_members}
use Rattle.seccheck_output.specs.declared.compared.Difference.{Difference}
use Rattle.seccheck_output.specs.declared.judging.Judged.{Judged}

-- a sound filter of this many instructions
abbrev pub accepted_object : ℕ → List ℕ
accepted_object count = codes "{\"answer\":\"accepted\",\"instructions\":" ++ decimal count ++ codes "}\n"

-- a profile's filter, of this many instructions
abbrev pub compiled_object : ℕ → List ℕ
compiled_object count = codes "{\"answer\":\"compiled\",\"instructions\":" ++ decimal count ++ codes "}\n"

-- the most instructions that a run takes
abbrev pub longest_object : ℕ → List ℕ
longest_object most = codes "{\"longest\":" ++ decimal most ++ codes "}\n"

-- the value, its action and data, and the steps
abbrev pub judged_object : Judged → List ℕ
judged_object judged =
    codes "{\"value\":" ++ (decimal judged.value ++ (codes ",\"action\":\"" ++ (name_of judged.verdict.action
    ++ (codes "\",\"data\":" ++ (decimal judged.verdict.ret_data
    ++ (codes ",\"steps\":" ++ (decimal judged.steps ++ codes "}\n")))))))

abbrev pub same_object : Calls → List ℕ
same_object Every = codes "{\"answer\":\"same\",\"calls\":\"every\"}\n"
same_object Native = codes "{\"answer\":\"same\",\"calls\":\"native\"}\n"

-- the call, and both values
abbrev pub difference_object : Difference → List ℕ
difference_object d =
    codes "{\"answer\":\"differ\"," ++ (call_members d.call ++ (codes ",\"first\":" ++ (value_object d.first
    ++ (codes ",\"second\":" ++ (value_object d.second ++ codes "}\n")))))
