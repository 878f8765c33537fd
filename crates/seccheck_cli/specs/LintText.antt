-- What is printed beside a filter, of its profile: this project's own, docs/SEMANTICS.md, "Programs".
use Rattle.std.specs.Prelude.{ℕ, zero, suc, List, [], ◌++◌, codes}
use Rattle.std.specs.Fmt.{decimal}
use Rattle.fault_notes.specs.Paths.{shown_path}

-- nothing where nothing is found
abbrev pub count_text : List ℕ → ℕ → List ℕ
count_text path zero = []
count_text path (suc zero) = codes "seccheck: " ++ (shown_path path
    ++ codes ": 1 finding, see seccheck lint\n")
count_text path (suc (suc more)) = codes "seccheck: " ++ (shown_path path ++ (codes ": "
    ++ (decimal (suc (suc more)) ++ codes " findings, see seccheck lint\n")))
