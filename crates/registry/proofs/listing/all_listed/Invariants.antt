use Rattle.std.proofs.Common.{◌≡◌, map, take}
use Rattle.registry.specs.Serves.{listed}
use Rattle.registry.proofs.listing.all_listed.Given as goal

abbrev pub invariant-loop-cell : goal.invariant-loop-cell
invariant-loop-cell l = l.items.items ≡ map listed (take l.cell-index l.cells)
