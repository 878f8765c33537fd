-- The rows so far that are asked, and those from here on, are all.
use Rattle.std.proofs.Common.{◌≡◌, ◌+◌, ◌≤◌, drop}
use Rattle.profile_report.specs.Grid.{asked}
use Rattle.profile_report.proofs.grid.asked.Given as goal

abbrev pub invariant-loop-row : goal.invariant-loop-row
invariant-loop-row l = (l.count + asked (drop l.row-index l.rows) ≡ asked l.rows)
    × (l.count ≤ l.row-index)
