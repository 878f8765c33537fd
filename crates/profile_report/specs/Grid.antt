-- The grid of a report: one cell for each call of the table, this project's own: docs/SEMANTICS.md, "A report".
-- Elements and attributes are those of the HTML Living Standard.
use Rattle.std.specs.Prelude.{ℕ, ◌+◌, Bool, true, false, if◌then◌else◌, List, [], ◌∷◌, ◌++◌, codes}
use Rattle.std.specs.Fmt.{decimal}
use Rattle.call_names.specs.declared.naming.Naming.TheVariants.{Name}
use Rattle.call_names.specs.Text.{call_text}
use Rattle.oci_profile.specs.declared.profile.Profile.{Profile}
use Rattle.sys_table.specs.declared.calls.CallTable.{CallTable}
use Rattle.profile_table.specs.declared.row.Row.{Row}
use Rattle.seccheck_differences.specs.declared.line.Line.{Line}
use Rattle.explain.specs.Text.{decided_text}
use Rattle.profile_report.specs.Changes.{changes_at, is_changed}
use Rattle.profile_report.specs.Ways.{asking, shown_for, ways_html}
use Rattle.profile_report.specs.Words.{letter_in, linked_text}

-- the classes of a cell whose call entries with conditions may decide, and of one that differs
abbrev pub conditional_class : Bool → List ℕ
conditional_class true = codes " q"
conditional_class false = codes ""

abbrev pub changed_class : Bool → List ℕ
changed_class true = codes " d"
changed_class false = codes ""

-- what one sees when one points at the cell: the decision, of other calls if there are conditions
abbrev pub conditional_title : Bool → List ℕ
conditional_title true = codes "by conditions, else "
conditional_title false = codes ""

-- the marks in a cell, so that no colour and no frame is needed
abbrev pub conditional_mark : Bool → List ℕ
conditional_mark true = codes "<i>?</i>"
conditional_mark false = codes ""

abbrev pub changed_mark : Bool → List ℕ
changed_mark true = codes "<i>&ne;</i>"
changed_mark false = codes ""

-- the closed cell: the letter of the action, and the name
unfoldable pub head_html : CallTable → Row → Bool → List ℕ
head_html calls row is_changed =
    codes "<details class=\"" ++ (letter_in row.value ++ (conditional_class row.is_asked ++ (changed_class is_changed
    ++ (codes "\"><summary title=\"" ++ (conditional_title row.is_asked ++ (decided_text row.value row.decider
    ++ (codes "\"><b>" ++ (letter_in row.value ++ (codes "</b> " ++ (call_text (Name calls) row.nr
    ++ (conditional_mark row.is_asked ++ (changed_mark is_changed ++ codes "</summary>"))))))))))))

-- the number of the call, and what decides it
unfoldable pub body_html : ℕ → Profile → Row → List ℕ
body_html count profile row =
    codes "<p>" ++ (decimal row.nr ++ (codes ": "
    ++ (ways_html count profile.entries (asking row 0 profile.entries)
    ++ (linked_text row.value row.decider ++ codes "</p>"))))

-- the whole cell: what decides, and what differs
unfoldable pub cell_html : CallTable → ℕ → Profile → List Line → Row → List ℕ
cell_html calls count profile lines row =
    head_html calls row (is_changed row.nr lines) ++ (body_html count profile row ++ (changes_at row.nr lines
    ++ codes "</details>\n"))

-- a cell for each row, in order
abbrev pub cells_html : CallTable → ℕ → Profile → List Line → List Row → List ℕ
cells_html calls count profile lines [] = []
cells_html calls count profile lines (row ∷ rows) =
    cell_html calls count profile lines row ++ cells_html calls count profile lines rows

-- how many calls entries with conditions may decide
abbrev pub asked : List Row → ℕ
asked [] = 0
asked (row ∷ rows) = if row.is_asked then 1 + asked rows else asked rows

unfoldable pub grid_html : CallTable → Profile → List Line → List Row → List ℕ
grid_html calls profile lines rows = cells_html calls (shown_for (asked rows)) profile lines rows
