-- The worker keeps its part, its share counts its receipts, and they are its work.
use Rattle.std.proofs.Common.{◌≡◌, ◌<◌, length}
use Rattle.worker_crew.specs.Work.{IsWork, number_after}
use Rattle.worker_crew.proofs.worker.work.Given as goal

abbrev pub invariant-loop : goal.invariant-loop
invariant-loop g l = (0 < l.share.parts) × (l.share.parts ≡ l.initial.share.parts)
    × (l.share.amount ≡ length l.receipts.items)
    × (l.last ≡ number_after 0 l.receipts.items) × IsWork g.P.Peer.may l.worker l.receipts.items
