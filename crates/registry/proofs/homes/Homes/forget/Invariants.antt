use Rattle.std.proofs.Common.{◌≡◌, ◌==◌, if◌then◌else◌, ℕ, take, None}
use Rattle.std.specs.List.{list_any}
use Rattle.registry.specs.Kept.{home_in}
use Rattle.registry.specs.Runtime.{id_of}
use Rattle.registry.proofs.homes.Homes.forget.Given as goal

abbrev pub invariant-loop-cell : goal.invariant-loop-cell
invariant-loop-cell l = (i : ℕ) → home_in l.self i
    ≡ (if list_any (λ cell. id_of cell == i) (take l.cell-index l.cells) then None else home_in l.fn.self i)
