-- One peer for each pass so far, at most 64, each with this socket and in this version.
use Rattle.std.proofs.Common.{◌≡◌, ◌≤◌, min, vec_len}
use Rattle.std.specs.List.{AllByRecursion}
use Rattle.agent_parts.specs.CommandLine.{version_for}
use Rattle.agent_program.proofs.working.peers.Given as goal

abbrev pub invariant-loop : goal.invariant-loop
invariant-loop g l =
    (vec_len l.peers ≡ l.counter) × (l.counter ≤ l.end) × (l.end ≡ min l.line.numbers.workers 64)
    × AllByRecursion (λ peer. (peer.path.now ≡ l.line.socket.now) × (peer.version ≡ version_for l.line))
    l.peers.items
