use Rattle.std.proofs.Common.{rules}
use Rattle.worker_core.specs.declared.limits.TheConstants.{LAST_NUMBER}
use Rattle.worker_core.proofs.Counts.{all_counted_more}
use Rattle.worker_core.proofs.node.Node.end.Goals as goal

pub end-requires-clause-counted : goal.end-requires-clause-counted
end-requires-clause-counted c =
    all_counted_more c.self.inside.number LAST_NUMBER (search rules) c.self.inside.pods
    c.self.invariant.counted
