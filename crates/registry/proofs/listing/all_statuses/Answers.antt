use Rattle.std.proofs.Common.{sym, subst, IsTrue}
use Rattle.manifest.specs.Texts.{is_label}
use Rattle.runtime_cell.specs.Cell.{Cell}
use Rattle.registry.proofs.Named.{named_here}
use Rattle.registry.proofs.listing.all_statuses.Goals as goal

pub listed_status-requires : goal.listed_status-requires
listed_status-requires c = subst (λ (cell : Cell). IsTrue (is_label cell.making.label.name))
    (sym c.cell-item.is)
    (named_here c.args.cells.now c.loop-cell.cell-index c.cell-item.result c.requires c.loop-cell-test.true)
