-- The coordinator keeps its parts.
use Rattle.std.proofs.Common.{◌≡◌}
use Rattle.node_lock.specs.declared.limits.TheConstants.{PARTS}
use Rattle.agent_trials.proofs.test_crews.begun.Given as goal

abbrev pub invariant-loop-line : goal.invariant-loop-line
invariant-loop-line g l = l.coordinator.parts ≡ PARTS
