-- As long as nothing was lost, the joined parts and the threads left are all parts; there is at most one peer
-- for each joined thread.
use Rattle.std.proofs.Common.{◌≡◌, ◌+◌, ◌≤◌, IsTrue, length, vec_len}
use Rattle.worker_crew.proofs.crews.join_workers.Given as goal

abbrev pub invariant-loop-thread : goal.invariant-loop-thread
invariant-loop-thread g l = (IsTrue l.whole → IsTrue l.complete
    × (l.all.parts + length l.thread-iterator.rest.items ≡ l.initial.all.parts
    + length l.initial.thread-iterator.rest.items))
    × (vec_len l.peers + length l.thread-iterator.rest.items ≤ vec_len l.initial.peers
    + length l.initial.thread-iterator.rest.items)
