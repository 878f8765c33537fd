-- The printed lines of an explanation, this project's own: docs/SEMANTICS.md, "Programs".
use Rattle.std.specs.Prelude.{ℕ, List, [], ◌∷◌, ◌++◌, codes}
use Rattle.std.specs.Fmt.{decimal}
use Rattle.action.specs.Shown.{value_text}
use Rattle.call_names.specs.Words.{argument_text}
use Rattle.oci_profile.specs.declared.conditions.Op.{Op}
use Rattle.oci_profile.specs.declared.conditions.Op.TheVariants.{NotEqual, Less, LessOrEqual, Equal}
use Rattle.oci_profile.specs.declared.conditions.Op.TheVariants.{GreaterOrEqual, Greater, MaskedEqual}
use Rattle.oci_profile.specs.Decision.{value_of}
use Rattle.explain.specs.declared.explanation.Decider.{Decider}
use Rattle.explain.specs.declared.explanation.Decider.TheVariants.{Architecture, X32Bit, Entry, Default}
use Rattle.explain.specs.declared.explanation.Explanation.{Explanation}
use Rattle.explain.specs.declared.explanation.PassedOver.{PassedOver}

abbrev pub op_text : Op → List ℕ
op_text NotEqual = codes "NE"
op_text Less = codes "LT"
op_text LessOrEqual = codes "LE"
op_text Equal = codes "EQ"
op_text GreaterOrEqual = codes "GE"
op_text Greater = codes "GT"
op_text MaskedEqual = codes "MASKED_EQ"

-- the value after the mask
abbrev pub masked_text : Op → ℕ → List ℕ
masked_text MaskedEqual two = codes " " ++ argument_text two
masked_text _ two = []

-- an entry's place, the argument that was compared, and what its condition wants
abbrev pub passed_text : PassedOver → List ℕ
passed_text passed =
    codes "not syscalls[" ++ (decimal passed.place
    ++ (codes "]: args[" ++ (decimal passed.cond.index ++ (codes "] is "
    ++ (argument_text passed.argument ++ (codes ", wanted "
    ++ (op_text passed.cond.op ++ (codes " " ++ (argument_text passed.cond.value
    ++ masked_text passed.cond.op passed.cond.value_two)))))))))

abbrev pub decider_text : Decider → List ℕ
decider_text Architecture = codes "the architecture"
decider_text X32Bit = codes "the x32 bit"
decider_text (Entry place) = codes "syscalls[" ++ (decimal place ++ codes "]")
decider_text Default = codes "defaultAction"

-- a value's action and data, and what decides
abbrev pub decided_text : ℕ → Decider → List ℕ
decided_text value decider = value_text value ++ (codes " by " ++ decider_text decider)

-- one line per entry
abbrev pub passed_lines : List PassedOver → List ℕ
passed_lines [] = []
passed_lines (passed ∷ others) = passed_text passed ++ (codes "\n" ++ passed_lines others)

abbrev pub explanation_text : Explanation → List ℕ
explanation_text e = passed_lines e.passed.items ++ (decided_text (value_of e.decision) e.decider ++ codes "\n")
