-- What was written, followed by the cells from here on, is all cells.
use Rattle.std.proofs.Common.{◌≡◌, ◌++◌, drop}
use Rattle.std.specs.Prelude.{string_bytes}
use Rattle.profile_report.specs.Grid.{cells_html}
use Rattle.profile_report.proofs.grid.cells_html.Given as goal

abbrev pub invariant-loop-row : goal.invariant-loop-row
invariant-loop-row l = string_bytes l.text
    ++ cells_html l.calls l.count l.profile l.lines (drop l.row-index l.rows)
    ≡ cells_html l.calls l.count l.profile l.lines l.rows
