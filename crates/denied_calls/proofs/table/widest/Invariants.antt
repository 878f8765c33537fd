-- The longest so far, and the longest from here on.
use Rattle.std.proofs.Common.{◌≡◌, drop, map, max}
use Rattle.denied_calls.specs.Table.{cells_of, widest}
use Rattle.denied_calls.proofs.table.widest.Given as goal

abbrev pub invariant-loop-line : goal.invariant-loop-line
invariant-loop-line l = max l.widest (widest l.column (map cells_of (drop l.line-index l.lines)))
    ≡ widest l.column (map cells_of l.lines)
