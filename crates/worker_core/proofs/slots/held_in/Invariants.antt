use Rattle.std.proofs.Common.{◌≡◌, ◌+◌, ◌≤◌, drop}
use Rattle.worker_core.specs.Slots.{held_in}
use Rattle.worker_core.proofs.slots.held_in.Given as goal

abbrev pub invariant-loop-slot : goal.invariant-loop-slot
invariant-loop-slot l = (l.count + held_in (drop l.slot-index l.slots) ≡ held_in l.slots)
    × (l.count ≤ l.slot-index)
