use Rattle.std.proofs.Common.{◌∙◌}
use borrow.Author.Count.{below_more}
use Rattle.bpf_code.specs.Reading.{IsKnownAt}
use Rattle.bpf_code.proofs.Bytes.{code_at-slice}
use Rattle.bpf_code.proofs.reader.first_unknown.Goals as goal

pub loop-at-preserved : goal.loop-at-preserved
loop-at-preserved c =
    below_more (IsKnownAt c.args.bytes.now) c.loop-at.at c.loop-at.invariant (
      c.in-Some.field-0.op,
      c.in-Some.ensures.known ∙ code_at-slice c.args.bytes.now c.loop-at.at,
    )
