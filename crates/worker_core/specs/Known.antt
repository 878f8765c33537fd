-- The uids that were ever admitted: this project's own. docs/SEMANTICS.md, "The agent: the node".
use Rattle.std.specs.Prelude.{ℕ, Bool, List}
use Rattle.std.specs.List.{list_any}
use Rattle.std.specs.Ordering.{nat_cmp}
use Rattle.std.specs.Cmp.Lexicographic.{slice_cmp}
use Rattle.std.specs.Str.{bytes_eq}
use Rattle.std.specs.BTreeSet.{insert_key}

abbrev pub is_known : List ℕ → List (List ℕ) → Bool
is_known uid uids = list_any (bytes_eq uid) uids

-- with this one, at its place in the order of bytes
abbrev pub with_uid : List ℕ → List (List ℕ) → List (List ℕ)
with_uid uid uids = insert_key (slice_cmp nat_cmp) uids uid
