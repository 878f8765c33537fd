use Rattle.std.proofs.Common.{◌≡◌, ◌++◌, map, take, drop}
use Rattle.runtime_cell.specs.Cell.{killed}
use Rattle.registry.proofs.cells.kill_each.Given as goal

-- so far the cells in front have ended
abbrev pub invariant-loop-cell : goal.invariant-loop-cell
invariant-loop-cell l = l.cell-items ≡ map (killed l.code) (take l.cell-index l.fn.cells.items)
    ++ drop l.cell-index l.fn.cells.items
