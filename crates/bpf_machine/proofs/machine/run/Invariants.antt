use Rattle.std.proofs.Common.{length, ◌-◌}
use Rattle.bpf_machine.proofs.Simulation.{Turn}
use Rattle.bpf_machine.proofs.machine.run.Given as goal

abbrev pub invariant-steps : goal.invariant-steps
invariant-steps l = Turn l.code l.call l.steps l.registers l.words

abbrev pub decreases-steps : goal.decreases-steps
decreases-steps l = length l.code - l.registers.place
