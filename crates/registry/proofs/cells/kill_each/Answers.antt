use Rattle.std.proofs.Common.{◌<◌, length, sym, subst}
use Rattle.runtime_cell.specs.Cell.{killed}
use Rattle.registry.proofs.Firsts.{map_next}
use Rattle.registry.proofs.cells.kill_each.Goals as goal

pub loop-cell-preserved : goal.loop-cell-preserved
loop-cell-preserved c =
    let inside : c.loop-cell.cell-index < length c.loop-cell.cell-items =
    subst (λ n. c.loop-cell.cell-index < n) (sym c.loop-cell.auto.cell-items) c.loop-cell-test.true in
    map_next (killed c.args.code) c.args.cells.now.items c.loop-cell.cell-items c.loop-cell.cell-index
    c.kill.new.self c.cell-item.result
    c.loop-cell.invariant inside c.kill.ensures
