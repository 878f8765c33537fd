-- The rows so far with this action, and those from here on, are all.
use Rattle.std.proofs.Common.{◌≡◌, ◌+◌, ◌≤◌, drop}
use Rattle.profile_report.specs.Tallies.{counted}
use Rattle.profile_report.proofs.tallies.counted.Given as goal

abbrev pub invariant-loop-row : goal.invariant-loop-row
invariant-loop-row l = (l.count + counted l.action (drop l.row-index l.rows) ≡ counted l.action l.rows)
    × (l.count ≤ l.row-index)
