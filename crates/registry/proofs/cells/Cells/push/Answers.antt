use Rattle.std.proofs.Common.{◌≤◌, ◌∷◌, [], List, length, sym, ap, subst, inl, inr, arith, length-append}
use Rattle.runtime_cell.specs.Cell.{Cell}
use Rattle.registry.specs.declared.limits.TheConstants.{MAX_CELLS}
use Rattle.registry.specs.Kept.{AreNamed}
use Rattle.registry.proofs.Named.{named_more}
use Rattle.registry.proofs.cells.Cells.push.Goals as goal

pub invariant_of-self : goal.invariant_of-self
invariant_of-self c = elim c.push_in.ensures.grows [
  | inl more ↦ subst (λ (cells : List Cell). (length cells ≤ MAX_CELLS) × AreNamed cells) (sym more) (
    omega (
      arith,
      length-append c.self.inside.cells.items (c.args.cell ∷ []),
      ap length c.self.view_is,
      c.requires.few,
    ),
    named_more c.self.inside.cells.items c.args.cell c.self.invariant.1 c.requires.named,
  )
  | inr same ↦ subst (λ (cells : List Cell). (length cells ≤ MAX_CELLS) × AreNamed cells)
      (sym same) c.self.invariant
]
