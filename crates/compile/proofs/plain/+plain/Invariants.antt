use Rattle.compile.proofs.Common.{◌-◌, length}
use Rattle.compile.proofs.plain.+plain.Given as goal

abbrev pub decreases-plain : goal.decreases-plain
decreases-plain l = length l.rules.now - l.from
