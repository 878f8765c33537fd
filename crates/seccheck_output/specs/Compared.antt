-- The output of comparing two filters, this project's own: docs/SEMANTICS.md, "Programs".
use Rattle.std.specs.Prelude.{ℕ, List, ◌++◌, codes}
use Rattle.action.specs.Shown as shown
use Rattle.bpf_compare.specs.declared.comparison.Doubt.{Doubt}
use Rattle.bpf_compare.specs.declared.comparison.Doubt.TheVariants.{Budget, Arithmetic}
use Rattle.bpf_compare.specs.declared.scope.Calls.{Calls}
use Rattle.bpf_compare.specs.declared.scope.Calls.TheVariants.{Every, Native}
use Rattle.call_names.specs.Words.{words_text}
use Rattle.seccheck_output.specs.declared.compared.Difference.{Difference}
use Rattle.seccheck_output.specs.Texts.{eight_digits}

-- a value, its action and data, an errno with its name
abbrev pub value_text : ℕ → List ℕ
value_text value = eight_digits value ++ (codes " " ++ shown.value_text value)

-- the call, in the words in which `run` takes it, and both values
abbrev pub difference_text : Difference → List ℕ
difference_text d =
    codes "differ at " ++ (words_text d.known d.call ++ (codes ": " ++ (value_text d.first
    ++ (codes ", " ++ value_text d.second))))

abbrev pub reason_of : Doubt → List ℕ
reason_of Budget = codes "they have too many paths"
reason_of Arithmetic = codes "one of them computes with loaded data"

abbrev pub same_text : Calls → List ℕ
same_text Every = codes "same on every call\n"
same_text Native = codes "same on every native call\n"
