use Rattle.std.proofs.Common.{string_bytes}
use Rattle.seccheck_output.specs.LineText.{entry_text}
use Rattle.seccheck_output.proofs.Lines.{one_more_line}
use Rattle.seccheck_output.proofs.line.outcome_lines.Goals as goal

pub loop-place-preserved : goal.loop-place-preserved
loop-place-preserved c = one_more_line (entry_text c.args.naming) c.args.outcome.now.entries _
    c.loop-place.place _ (string_bytes c.loop-place.text) _ c.entries-entry-items.ensures
    c.loop-place-test.true c.loop-place.invariant c.in_ok-writeln.ensures.bytes
