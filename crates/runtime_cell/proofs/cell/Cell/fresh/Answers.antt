use Rattle.std.proofs.Common.{◌∙◌, ap, arith, length, subst, sym}
use Rattle.runtime_cell.specs.Cell.{Confines}
use Rattle.runtime_cell.specs.Keeps.{filters_in}
use Rattle.runtime_cell.proofs.Kept.{fresh_held}
use Rattle.runtime_cell.proofs.cell.Cell.fresh.Goals as goal

pub invariant_of-result : goal.invariant_of-result
invariant_of-result c =
    let same = c.in_ok-reserve.ensures.same in
    fresh_held c.stacks_judge_every_call.ensures.every c.args.label c.args.script c.args.profile
    c.reserve.new.self.filters _ c.in_ok-entries.entries.items _ c.in_ok-copies.copies.items
    c.reserve.new.self.room c.args.state
    (ap length c.filters-start.ensures.same) c.in_ok-entries.ensures.items
    (omega (arith, c.len-2.ensures.steps, c.in_ok-entries.ensures.capacity))
    (c.in_ok-copies.ensures ∙ ap filters_in c.steps.ensures.value)
    (omega (arith, c.len.ensures, c.in_ok-reserve.ensures.ok)) c.requires.unended
    c.filters-start.ensures.sound c.steps.ensures.sound
    (subst (λ fs. Confines fs c.args.profile) (sym same) c.requires.confined)
