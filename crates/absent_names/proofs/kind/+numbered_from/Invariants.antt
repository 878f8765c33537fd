use Rattle.std.proofs.Common.{length}
use Rattle.absent_names.proofs.kind.+numbered_from.Given as goal

abbrev pub decreases-numbered_from : goal.decreases-numbered_from
decreases-numbered_from l = length l.names.now
