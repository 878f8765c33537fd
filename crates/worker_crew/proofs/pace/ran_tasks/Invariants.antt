-- The coordinator keeps its parts.
use Rattle.std.proofs.Common.{◌≡◌}
use Rattle.worker_crew.proofs.pace.ran_tasks.Given as goal

abbrev pub invariant-loop : goal.invariant-loop
invariant-loop g l = l.coordinator.parts ≡ l.initial.coordinator.parts
