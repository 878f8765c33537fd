use Rattle.std.proofs.Common.{◌∙◌, sym, ap, subst}
use Rattle.runtime_cell.specs.Cell.{Cell}
use Rattle.registry.specs.Runtime.{In, id_of}
use Rattle.registry.proofs.Places.{at_in}
use Rattle.registry.proofs.cells.get_in.Goals as goal

pub returns-in-None : goal.returns-in-None
returns-in-None c = c.in-None.ensures.none

pub returns-in-Some : goal.returns-in-Some
returns-in-Some c =
    let stands = c.in-Some.ensures.found c.index-cells-at.result in (
      subst (λ (cell : Cell). In cell c.args.cells.now) (sym c.index-cells-at.is)
          (at_in c.args.cells.now c.in-Some.at c.index-cells-at.result stands.0),
      ap id_of c.index-cells-at.is ∙ stands.1,
    )
