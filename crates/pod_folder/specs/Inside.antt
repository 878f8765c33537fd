-- Which paths lead into a folder, both without links: this project's own. docs/SEMANTICS.md, "Pods of a
-- folder".
use Rattle.std.specs.Prelude.{ℕ, ◌==◌, ◌&&◌, ◌||◌, nat_eq, Bool, false, List, Option, Some, None, codes}
use Rattle.std.specs.Prelude.{length}
use Rattle.std.specs.Prelude.{slice_get}
use Rattle.std.specs.List.{starts_with}
use Rattle.std.specs.Str.{bytes_eq}

-- a slash separates a folder from what is in it
abbrev pub is_slash : Option ℕ → Bool
is_slash None = false
is_slash (Some byte) = byte == 47

abbrev pub is_below : List ℕ → List ℕ → Bool
is_below root path = starts_with nat_eq path root && is_slash (slice_get path (length root))

-- everything is in the root; ../pods2 is not in ../pods
abbrev pub inside : List ℕ → List ℕ → Bool
inside root path = bytes_eq root (codes "/") || is_below root path
