use Rattle.std.proofs.Common.{arith}
use Rattle.std.proofs.lemmas.Grind.{common_steps}
use Rattle.denied_calls.proofs.Cells.{next_cell}
use Rattle.denied_calls.proofs.table.add_line.Goals as goal

pub loop-column-preserved : goal.loop-column-preserved
loop-column-preserved c =
    grind (
      arith,
      common_steps,
      next_cell c.args.widths c.args.line.now c.loop-column.column
          c.index-line-column.result c.loop-column-test.true c.index-line-column.is,
      c.loop-column.invariant,
      c.in_ok-add_gap.ensures,
      c.in_ok-push_str.ensures.bytes,
      c.as_str.ensures.value,
      c.saturating_sub-missing.ensures,
      c.width_at.ensures,
      c.len.ensures,
    )
