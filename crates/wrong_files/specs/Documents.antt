-- Which bytes are several documents of JSON (RFC 8259), one after the other: this project's own,
-- docs/SEMANTICS.md, "What a refused file seems to be". In a document a comma stands between a bracket that
-- closes and one that opens, so outside of texts the first seam is the first document's end.
use Rattle.std.specs.Prelude.{ℕ, ◌+◌, ◌==◌, Bool, false, ◌||◌, ◌&&◌, List, length, take, drop, slice_index}
use Rattle.std.specs.Prelude.{is_some, Option, Some, None}
use Rattle.std.specs.List.{find, range_with_len}
use Rattle.json_tree.specs.Tree.{tree_of}
use Rattle.wrong_files.specs.Texts.{begins_document}

-- `}` or `]`
abbrev pub closes : ℕ → Bool
closes byte = byte == 125 || byte == 93

-- a bracket closes, and the next byte that is no white space opens one
abbrev pub begins_with_seam : List ℕ → Bool
begins_with_seam bytes = closes (slice_index bytes 0) && begins_document (drop 1 bytes)

abbrev pub is_seam : List ℕ → ℕ → Bool
is_seam bytes at = begins_with_seam (drop at bytes)

-- the first place with a seam
abbrev pub first_seam : List ℕ → Option ℕ
first_seam bytes = find (is_seam bytes) (range_with_len 0 (length bytes))

-- the bytes to this place, and its own, are a document
abbrev pub ends_document : List ℕ → Option ℕ → Bool
ends_document bytes None = false
ends_document bytes (Some at) = is_some (tree_of (take (at + 1) bytes))

abbrev pub are_documents : List ℕ → Bool
are_documents bytes = ends_document bytes (first_seam bytes)
