use Rattle.std.proofs.Common.{◌≡◌, ◌≤◌, take}
use Rattle.lifecycle.specs.BackOff.{row_of}
use Rattle.lifecycle.proofs.back_off.row.Given as goal

abbrev pub invariant-loop-run : goal.invariant-loop-run
invariant-loop-run l = (l.row ≡ row_of (take l.run-index l.runs)) × (l.row ≤ l.run-index)
