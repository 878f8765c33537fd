use Rattle.std.proofs.Common.{length}
use Rattle.call_names.proofs.words.+given.Given as goal

abbrev pub decreases-given : goal.decreases-given
decreases-given l = length l.args.now
