-- The coordinator has more parts than there are peers left, and gave one part to each thread.
use Rattle.std.proofs.Common.{◌≡◌, ◌+◌, ◌<◌, length, vec_len}
use Rattle.worker_crew.proofs.crews.start_workers.Given as goal

abbrev pub invariant-loop-peer : goal.invariant-loop-peer
invariant-loop-peer g l = (length l.peer-iterator.rest.items < l.coordinator.parts)
    × (l.coordinator.parts + vec_len l.threads ≡ l.initial.coordinator.parts)
    × (l.worker + length l.peer-iterator.rest.items ≡ length l.initial.peer-iterator.rest.items)
    × (vec_len l.threads ≡ l.worker)
