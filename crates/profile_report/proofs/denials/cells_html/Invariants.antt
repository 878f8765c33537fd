-- What was written, followed by the cells from here on, is the whole line.
use Rattle.std.proofs.Common.{◌≡◌, ◌++◌, drop}
use Rattle.std.specs.Prelude.{string_bytes}
use Rattle.profile_report.specs.Denials.{cells_html}
use Rattle.profile_report.proofs.denials.cells_html.Given as goal

abbrev pub invariant-loop-cell : goal.invariant-loop-cell
invariant-loop-cell l = string_bytes l.text ++ cells_html (drop l.cell-index l.cells)
    ≡ cells_html l.cells
