-- The filters of the steps so far are copied.
use Rattle.std.proofs.Common.{◌≡◌, take}
use Rattle.runtime_cell.specs.Keeps.{filters_in}
use Rattle.runtime_cell.proofs.copies.copies.Given as goal

abbrev pub invariant-loop-step : goal.invariant-loop-step
invariant-loop-step l = l.copies.items ≡ filters_in (take l.step-index l.steps)
