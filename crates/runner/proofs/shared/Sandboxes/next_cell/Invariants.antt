-- No id up to the last one that was looked at is of the share.
use Rattle.std.proofs.Common.{◌-◌, ◌^◌}
use Rattle.registry.specs.Kept.{home_in}
use Rattle.runner.specs.Labelled.{Passed, of_share, visited}
use Rattle.runner.proofs.shared.Sandboxes.next_cell.Given as goal

abbrev pub invariant-loop-id : goal.invariant-loop-id
invariant-loop-id g l = Passed (of_share l.runner l.runners
    (home_in (visited l.self.registered.0.homes l.self.due))) l.above l.last

abbrev pub decreases-loop-id : goal.decreases-loop-id
decreases-loop-id g l = 2 ^ 64 - l.last
