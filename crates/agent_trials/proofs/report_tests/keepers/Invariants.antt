-- One peer for each pass so far.
use Rattle.std.proofs.Common.{◌≡◌, vec_len}
use Rattle.agent_trials.proofs.report_tests.keepers.Given as goal

abbrev pub invariant-loop : goal.invariant-loop
invariant-loop g l = vec_len l.peers ≡ l.counter
