use Rattle.std.proofs.Common.{◌-◌, length}
use Rattle.bpf_verify.proofs.WaysOn.{Knows}
use Rattle.bpf_verify.proofs.longest.longest_by.Given as goal

abbrev pub invariant-loop-done : goal.invariant-loop-done
invariant-loop-done l = Knows l.code (length l.code - l.done) l.ahead
