-- The findings kept so far, and those that are kept of the rest, are all.
use Rattle.std.specs.Prelude.{◌≡◌, ◌++◌, drop, false}
use Rattle.profile_lint.specs.Findings.{once_from}
use Rattle.profile_lint.proofs.finder.once.Given as goal

abbrev pub invariant-loop-one : goal.invariant-loop-one
invariant-loop-one l = l.kept.items ++ once_from l.is_said (drop l.one-index l.found) ≡ once_from false l.found
