-- One peer for each pass so far, at most 64.
use Rattle.std.proofs.Common.{◌≡◌, ◌≤◌, vec_len}
use Rattle.agent_trials.proofs.test_crews.peers.Given as goal

abbrev pub invariant-loop : goal.invariant-loop
invariant-loop g l = (vec_len l.peers ≡ l.counter) × (l.counter ≤ l.end) × (l.end ≤ 64)
