use Rattle.std.proofs.Common.{false}
use Rattle.std.specs.Fmt.{digits}
use Rattle.seccheck_output.proofs.Digits.{padded_to_eight}
use Rattle.seccheck_output.proofs.compared.ShownValueDisplay.fmt.Goals as goal

pub returns-clause-writes : goal.returns-clause-writes
returns-clause-writes g c =
    (rw (
      c.laid_out.ensures,
      c.in_radix.ensures,
      padded_to_eight (digits 16 false c.args.self.now.0),
    ) at c.write.ensures.writes)
