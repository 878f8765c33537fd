-- How many more there are, this project's own: docs/SEMANTICS.md, "A report".
use Rattle.std.specs.Prelude.{ℕ, ◌==◌, if◌then◌else◌, List, [], ◌++◌}
use Rattle.std.specs.Fmt.{decimal}

-- nothing if there are none
unfoldable pub more_text : List ℕ → ℕ → List ℕ → List ℕ
more_text before count after = if count == 0 then [] else before ++ (decimal count ++ after)
