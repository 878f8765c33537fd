-- The name of a file as it is shown to a person: this project's own, docs/SEMANTICS.md, "Programs".
use Rattle.std.specs.Prelude.{ℕ, List, chars, flat_map}
use Rattle.json_place.specs.Quoted.{escaped}

-- each character as between quotes in JSON (RFC 8259, section 7), and nothing is cut
abbrev pub shown_path : List ℕ → List ℕ
shown_path name = flat_map escaped (chars name)
