use Rattle.std.proofs.Common.{◌++◌, ap, arith, length, map, sym, ◌∙◌}
use Rattle.profile_table.specs.Rows.{named_at}
use Rattle.profile_table.specs.declared.row.Row.{Row}
use Rattle.profile_table.proofs.Treated.{named_more, named_zero}
use Rattle.profile_table.proofs.treating.rows.Goals as goal

pub loop-nr-init : goal.loop-nr-init
loop-nr-init c = (
  ap (map (λ (row : Row). row.nr)) c.new-rows.ensures.items ∙ sym (named_zero c.args.calls),
  λ k d below. absurd (omega (arith, below, ap length c.new-rows.ensures.items)),
)

pub loop-nr-preserved : goal.loop-nr-preserved
loop-nr-preserved c = (
  c.in_ok-add.ensures.numbers ∙ ap (λ numbers. numbers ++ named_at c.args.calls c.loop-nr.nr) c.loop-nr.invariant.0
      ∙ sym (named_more c.args.calls c.loop-nr.nr),
  c.in_ok-add.ensures.real c.loop-nr.invariant.1,
)
