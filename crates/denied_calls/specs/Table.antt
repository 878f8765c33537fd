-- Cells in columns, this project's own: docs/SEMANTICS.md, "Programs".
use Rattle.std.specs.Prelude.{ℕ, ◌+◌, ◌-◌, max, List, [], ◌∷◌, ◌++◌, length, map, replicate, codes, string_bytes}
use Rattle.std.specs.Prelude.{slice_get, slice_index_or, String, Vec, Option, Some, None, Bool, true, false}
use Rattle.std.specs.Global.{Global}

-- the cells of a line
abbrev pub cells_of : Vec (String Global) Global → List (List ℕ)
cells_of line = map string_bytes line.items

abbrev pub len_of : Option (List ℕ) → ℕ
len_of None = 0
len_of (Some cell) = length cell

abbrev pub len_at : ℕ → List (List ℕ) → ℕ
len_at column cells = len_of (slice_get cells column)

-- the length of the longest cell of a column
abbrev pub widest : ℕ → List (List (List ℕ)) → ℕ
widest column [] = 0
widest column (cells ∷ lines) = max (len_at column cells) (widest column lines)

abbrev pub widths_of : List (List (List ℕ)) → List ℕ
widths_of lines = widest 0 lines ∷ widest 1 lines ∷ widest 2 lines ∷ widest 3 lines ∷ widest 4 lines
    ∷ widest 5 lines ∷ widest 6 lines ∷ []

-- spaces up to the column's width, and two more
abbrev pub gap : ℕ → Bool → List ℕ
gap missing true = replicate missing 32 ++ codes "  "
gap missing false = []

abbrev pub is_more : List (List ℕ) → Bool
is_more [] = false
is_more (cell ∷ cells) = true

-- each cell but the last one is filled up to its column's width
abbrev pub line_text : List ℕ → ℕ → List (List ℕ) → List ℕ
line_text widths column [] = codes "\n"
line_text widths column (cell ∷ cells) = cell
    ++ (gap (slice_index_or widths column 0 - length cell) (is_more cells) ++ line_text widths (column + 1) cells)

abbrev pub lines_text : List ℕ → List (List (List ℕ)) → List ℕ
lines_text widths [] = []
lines_text widths (cells ∷ lines) = line_text widths 0 cells ++ lines_text widths lines

abbrev pub table_text : List (List (List ℕ)) → List ℕ
table_text lines = lines_text (widths_of lines) lines
