use Rattle.std.proofs.Common.{◌≡◌, ℕ, ◌<◌, length}
use Rattle.std.specs.Prelude.{slice_index_or}
use Rattle.filter_differences.specs.declared.finding.Finding.{Finding}
use Rattle.seccheck_differences.specs.declared.line.Line.{Line}
use Rattle.seccheck_differences.specs.Telling.{IsLineOf}
use Rattle.seccheck_differences.proofs.telling.lines.Given as goal

abbrev pub invariant-loop-finding : goal.invariant-loop-finding
invariant-loop-finding l =
    (length l.lines.items ≡ l.finding-index)
    × ((k : ℕ) (finding : Finding) (line : Line) → k < l.finding-index
    → IsLineOf l.first l.second (slice_index_or l.findings k finding) (slice_index_or l.lines.items k line))
