use Rattle.std.proofs.Common.{false}
use Rattle.std.specs.Fmt.{digits}
use Rattle.json_place.proofs.Fitting.{padded_to_four}
use Rattle.json_place.proofs.quoted.CodedDisplay.fmt.Goals as goal

pub returns-clause-writes : goal.returns-clause-writes
returns-clause-writes g c = rw (
  c.laid_out.ensures,
  c.in_radix.ensures,
  padded_to_four (digits 16 false c.from-number.result),
  c.from-number.ensures,
) at c.write.ensures.writes
