-- Denied calls as lines of a table, this project's own: docs/SEMANTICS.md, "Programs".
use Rattle.std.specs.Prelude.{ℕ, List, [], ◌∷◌, ◌++◌, codes, string_bytes}
use Rattle.std.specs.Fmt.{decimal}
use Rattle.explain.specs.Text.{decider_text}
use Rattle.explain.specs.declared.explanation.Decider.{Decider}
use Rattle.denied_calls.specs.declared.sighting.Sighting.{Sighting}
use Rattle.denied_calls.specs.declared.totalling.Total.{Total}
use Rattle.action.specs.Shown.{value_text}
use Rattle.denied_calls.specs.Shown.{call_text}
use Rattle.sys_table.specs.declared.calls.CallTable.{CallTable}

-- the names are those of these calls
abbrev pub row_cells : CallTable → Sighting → ℕ → List (List ℕ)
row_cells calls s count = string_bytes s.uid ∷ string_bytes s.name ∷ call_text calls s.nr s.arch
    ∷ value_text s.value ∷ decimal count
    ∷ (codes "attempt " ++ (decimal s.attempt ++ (codes ", call " ++ decimal s.first))) ∷ []

abbrev pub total_cells : CallTable → Total → List (List ℕ)
total_cells calls t = call_text calls t.nr t.arch ∷ value_text t.value ∷ decimal t.count.0
    ∷ decimal t.containers ∷ []

abbrev pub others_text : List Decider → List ℕ
others_text [] = []
others_text (decider ∷ deciders) = codes ", " ++ (decider_text decider ++ others_text deciders)

-- what of the profile denied a call
abbrev pub by_text : List Decider → List ℕ
by_text [] = codes "-"
by_text (decider ∷ deciders) = decider_text decider ++ others_text deciders
