-- The table of denied calls in a report, this project's own: docs/SEMANTICS.md, "A report".
use Rattle.std.specs.Prelude.{ℕ, ◌-◌, ◌==◌, if◌then◌else◌, List, [], ◌∷◌, ◌++◌, codes, length, string_bytes}
use Rattle.std.specs.Prelude.{String, Vec}
use Rattle.std.specs.Global.{Global}
use Rattle.profile_report.specs.Escaped.{html_text}
use Rattle.profile_report.specs.More.{more_text}
use Rattle.profile_report.specs.Ways.{first}
use Rattle.profile_report.specs.declared.denials.TheConstants.{SHOWN_DENIALS}

-- cells: 48 bytes of each are shown
abbrev pub cells_html : List (String Global) → List ℕ
cells_html [] = []
cells_html (cell ∷ cells) = codes "<td>" ++ (html_text 48 (string_bytes cell) ++ (codes "</td>"
    ++ cells_html cells))

abbrev pub lines_html : List (Vec (String Global) Global) → List ℕ
lines_html [] = []
lines_html (line ∷ lines) = codes "<tr>" ++ (cells_html line.items ++ (codes "</tr>\n" ++ lines_html lines))

unfoldable pub table_head : List ℕ
table_head = codes "<div class=\"s\" tabindex=\"0\"><table>\n<thead><tr><th scope=\"col\">pod</th><th scope=\"col\">container</th><th scope=\"col\">call</th><th scope=\"col\">verdict</th><th scope=\"col\">times</th><th scope=\"col\">first</th></tr></thead>\n<tbody>\n"

-- the first lines as a table
unfoldable pub first_lines : List (Vec (String Global) Global) → List ℕ
first_lines lines = table_head ++ (lines_html (first SHOWN_DENIALS lines) ++ codes "</tbody></table></div>\n")

-- and how many more there are
unfoldable pub table_html : List (Vec (String Global) Global) → List ℕ
table_html lines = first_lines lines ++ more_text (codes "<p class=\"m\">") (length lines - SHOWN_DENIALS)
    (codes " more, which <code>seccheck denied</code> prints</p>\n")

-- the table, or that there is no line for it
unfoldable pub table_or : List (Vec (String Global) Global) → List ℕ
table_or lines = if length lines == 0 then codes "<p>No call was denied.</p>\n" else table_html lines

-- the part of a page
abbrev pub denials_html : List (Vec (String Global) Global) → List ℕ
denials_html lines = codes "<section id=\"denied\"><h2>Denied calls</h2>\n" ++ (table_or lines
    ++ codes "</section>\n")
