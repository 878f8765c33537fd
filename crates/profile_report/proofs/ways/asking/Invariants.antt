-- The places found so far, followed by those from here on, are all.
use Rattle.std.proofs.Common.{◌≡◌, ◌++◌, drop}
use Rattle.profile_report.specs.Ways.{asking}
use Rattle.profile_report.proofs.ways.asking.Given as goal

abbrev pub invariant-loop-place : goal.invariant-loop-place
invariant-loop-place l = l.places.items ++ asking l.row l.place (drop l.place l.entries)
    ≡ asking l.row 0 l.entries
