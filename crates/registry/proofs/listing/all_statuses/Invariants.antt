use Rattle.std.proofs.Common.{◌≡◌, map, take}
use Rattle.registry.specs.Serves.{listed_status}
use Rattle.registry.proofs.listing.all_statuses.Given as goal

abbrev pub invariant-loop-cell : goal.invariant-loop-cell
invariant-loop-cell l = l.items.items ≡ map listed_status (take l.cell-index l.cells)
