-- A container's line, from its parts. Only private functions cite this: `specs/PickText.antt` has the same in
-- one.
use Rattle.std.specs.Prelude.{ℕ, List, ◌++◌, codes}
use Rattle.seccheck_output.specs.declared.picked.Picked.{Picked}

abbrev pub line_text : Picked → List ℕ
line_text picked = picked.name.now ++ (codes " " ++ (picked.kind.now ++ picked.path.now))
