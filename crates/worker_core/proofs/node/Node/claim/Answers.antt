use Rattle.std.proofs.Common.{sym, ◌∙◌}
use Rattle.worker_core.proofs.Counts.{next_number}
use Rattle.worker_core.proofs.node.Node.claim.Goals as goal

pub give-requires : goal.give-requires
give-requires c = next_number c.args.self.now c.in-Some.grant (sym c.in_ok-grant.ensures.grant ∙ c.in-Some.is)
