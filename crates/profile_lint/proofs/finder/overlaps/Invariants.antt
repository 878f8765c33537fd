-- The overlaps so far are true, and all.
use Rattle.std.specs.Prelude.{All}
use Rattle.profile_lint.specs.Findings.{IsSo}
use Rattle.profile_lint.proofs.Reports.{AreApartTo}
use Rattle.profile_lint.proofs.finder.overlaps.Given as goal

abbrev pub invariant-loop-second : goal.invariant-loop-second
invariant-loop-second l = All (IsSo l.profile) l.found.items
    × AreApartTo l.profile l.found.items l.place l.second
