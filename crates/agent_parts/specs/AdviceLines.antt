-- The lines of `nodeagent` on what of a manifest has no effect: this project's own, docs/SEMANTICS.md, "Manifests".
use Rattle.std.specs.Prelude.{ℕ, List, ◌++◌, codes, map}
use Rattle.fault_notes.specs.Paths.{shown_path}
use Rattle.manifest_advice.specs.Words.{advice_texts}

unfoldable pub advice_line : List ℕ → List ℕ → List ℕ
advice_line path text = codes "nodeagent: " ++ (shown_path path ++ (codes ": " ++ text))

abbrev pub advice_lines : List ℕ → List ℕ → List (List ℕ)
advice_lines path bytes = map (advice_line path) (advice_texts bytes)
