-- The coordinator keeps its parts.
use Rattle.std.proofs.Common.{◌≡◌}
use Rattle.node_lock.specs.declared.limits.TheConstants.{PARTS}
use Rattle.agent_program.proofs.admission.admission_of.Given as goal

abbrev pub invariant-loop-path : goal.invariant-loop-path
invariant-loop-path g l = l.admission.coordinator.parts ≡ PARTS
