-- The findings are true, and all of the entries so far.
use Rattle.std.specs.Prelude.{All}
use Rattle.profile_lint.specs.Findings.{IsSo}
use Rattle.profile_lint.proofs.Reports.{AreReportedTo}
use Rattle.profile_lint.proofs.finder.about_entries.Given as goal

abbrev pub invariant-loop-place : goal.invariant-loop-place
invariant-loop-place l = All (IsSo l.profile) l.found.items × AreReportedTo l.profile l.found.items l.place
