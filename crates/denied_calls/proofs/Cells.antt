-- One more cell of a line.
use Rattle.std.proofs.Common.{◌≡◌, ℕ, zero, suc, ◌+◌, ◌-◌, ◌<◌, List, [], ◌∷◌, ◌++◌, drop, drop-cons, get_or}
use Rattle.std.proofs.Common.{length, map, nat_lt, string_bytes, arith}
use Rattle.std.proofs.lemmas.Grind.{common_steps}
use Rattle.std.specs.Prelude.{String, slice_index_or}
use Rattle.std.specs.Global.{Global}
use Rattle.denied_calls.specs.Table.{gap, is_more, line_text}

more_is : (line : List (String Global)) (i : ℕ) → is_more (map string_bytes (drop i line)) ≡ nat_lt i (length line)
more_is [] i = grind (arith, common_steps)
more_is (cell ∷ line) zero = grind (arith, common_steps)
more_is (cell ∷ line) (suc i) = grind (arith, common_steps, more_is line i)

pub next_cell : (widths : List ℕ) (line : List (String Global)) (i : ℕ) (cell : String Global)
    → i < length line → cell ≡ get_or line i cell
    → line_text widths i (map string_bytes (drop i line)) ≡ string_bytes cell
    ++ (gap (slice_index_or widths i 0 - length (string_bytes cell)) (nat_lt (i + 1) (length line))
    ++ line_text widths (i + 1) (map string_bytes (drop (i + 1) line)))
next_cell widths line i cell inside is =
    grind (arith, common_steps, drop-cons line i cell, more_is line (i + 1))
