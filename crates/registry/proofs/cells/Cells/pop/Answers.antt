use Rattle.std.proofs.Common.{◌≤◌, ◌-◌, List, length, sym, subst, arith}
use Rattle.std.proofs.lemmas.List.{length-take}
use Rattle.runtime_cell.specs.Cell.{Cell}
use Rattle.registry.specs.declared.limits.TheConstants.{MAX_CELLS}
use Rattle.registry.specs.Kept.{AreNamed}
use Rattle.registry.proofs.Named.{named_fewer}
use Rattle.registry.proofs.cells.Cells.pop.Goals as goal

pub invariant_of-self : goal.invariant_of-self
invariant_of-self c = subst (λ (cells : List Cell). (length cells ≤ MAX_CELLS) × AreNamed cells)
    (sym c.pop_in.ensures) (
      omega (
        arith,
        length-take (length c.self.inside.cells.items - 1) c.self.inside.cells.items,
        c.self.invariant.0,
      ),
      named_fewer c.self.inside.cells.items c.self.invariant.1,
    )
