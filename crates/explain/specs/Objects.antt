-- An explanation as JSON objects (RFC 8259), one per line, this project's own: docs/SEMANTICS.md, "Programs".
-- No text of it has a byte that JSON would escape.
use Rattle.std.specs.Prelude.{ℕ, List, [], ◌∷◌, ◌++◌, codes}
use Rattle.std.specs.Fmt.{decimal}
use Rattle.action.specs.Verdict.{name_of, verdict_of}
use Rattle.oci_profile.specs.declared.conditions.Op.{Op}
use Rattle.oci_profile.specs.declared.conditions.Op.TheVariants.{MaskedEqual}
use Rattle.oci_profile.specs.Decision.{value_of}
use Rattle.explain.specs.declared.explanation.Decider.{Decider}
use Rattle.explain.specs.declared.explanation.Explanation.{Explanation}
use Rattle.explain.specs.declared.explanation.PassedOver.{PassedOver}
use Rattle.explain.specs.Text.{decider_text, op_text}

-- the value after the mask
abbrev pub masked_member : Op → ℕ → List ℕ
masked_member MaskedEqual two = codes ",\"valueTwo\":" ++ decimal two
masked_member _ two = []

-- an entry's place, the argument that was compared, and what its condition wants
abbrev pub passed_object : PassedOver → List ℕ
passed_object passed =
    codes "{\"not\":\"syscalls[" ++ (decimal passed.place
    ++ (codes "]\",\"arg\":" ++ (decimal passed.cond.index ++ (codes ",\"is\":"
    ++ (decimal passed.argument ++ (codes ",\"wanted\":\""
    ++ (op_text passed.cond.op ++ (codes "\",\"value\":" ++ (decimal passed.cond.value
    ++ (masked_member passed.cond.op passed.cond.value_two ++ codes "}"))))))))))

-- a value's action and data, and what decides
abbrev pub decided_members : ℕ → Decider → List ℕ
decided_members value decider =
    codes "\"action\":\"" ++ (name_of (verdict_of value).action ++ (codes "\",\"data\":"
    ++ (decimal (verdict_of value).ret_data ++ (codes ",\"by\":\"" ++ (decider_text decider ++ codes "\"")))))

-- one line per entry
abbrev pub passed_objects : List PassedOver → List ℕ
passed_objects [] = []
passed_objects (passed ∷ others) = passed_object passed ++ (codes "\n" ++ passed_objects others)

abbrev pub explanation_objects : Explanation → List ℕ
explanation_objects e = passed_objects e.passed.items ++ (codes "{"
    ++ (decided_members (value_of e.decision) e.decider ++ codes "}\n"))
