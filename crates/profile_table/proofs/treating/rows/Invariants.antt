-- The calls below this number have their rows.
use Rattle.std.proofs.Common.{◌≡◌, map}
use Rattle.std.specs.List.{All}
use Rattle.profile_table.specs.Rows.{IsRowOf, named_below}
use Rattle.profile_table.proofs.treating.rows.Given as goal

abbrev pub invariant-loop-nr : goal.invariant-loop-nr
invariant-loop-nr l =
    (map (λ row. row.nr) l.rows.items ≡ named_below l.calls l.nr) × All (IsRowOf l.calls l.profile) l.rows.items
