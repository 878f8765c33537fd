use Rattle.std.proofs.Common.{◌≤◌, List, length, sym, subst, arith}
use Rattle.std.proofs.lemmas.List.{length-map}
use Rattle.runtime_cell.specs.Cell.{Cell, killed}
use Rattle.registry.specs.declared.limits.TheConstants.{MAX_CELLS}
use Rattle.registry.specs.Kept.{AreNamed}
use Rattle.registry.proofs.Named.{named_ended}
use Rattle.registry.proofs.cells.Cells.kill_all.Goals as goal

pub invariant_of-self : goal.invariant_of-self
invariant_of-self c = subst (λ (cells : List Cell). (length cells ≤ MAX_CELLS) × AreNamed cells)
    (sym c.kill_each.ensures) (
      omega (arith, length-map c.self.inside.cells.items (killed c.args.code), c.self.invariant.0),
      named_ended c.args.code c.self.inside.cells.items c.self.invariant.1,
    )
