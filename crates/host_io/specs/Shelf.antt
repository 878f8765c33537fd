-- Files in memory, this project's own: docs/SEMANTICS.md, "Files that are written". A path is its bytes.
use Rattle.std.specs.Prelude.{ℕ, List, Option, String, Vec}
use Rattle.std.specs.Option.{option_map}
use Rattle.std.specs.BTreeMap.{BTreeMap, get_by_text}

-- the bytes at a path
abbrev pub held_on : {Y Z : Type 0} → BTreeMap (String Y) (Vec ℕ Z) → List ℕ → Option (List ℕ)
held_on files path = option_map (λ bytes. bytes.items) (get_by_text files path)
