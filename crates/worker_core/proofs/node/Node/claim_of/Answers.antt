use Rattle.std.proofs.Common.{Option, ap, subst, sym, ◌∙◌}
use Rattle.cri_msgs.specs.declared.calls.Request.{Request}
use Rattle.worker_core.specs.Kept.{KeptNode}
use Rattle.worker_core.specs.Laws.{IsClaimOf}
use Rattle.worker_core.specs.Slots.{claim_of}
use Rattle.worker_core.proofs.Holders.{claim_is}
use Rattle.worker_core.proofs.node.Node.claim_of.Goals as goal

pub returns-clause-claim : goal.returns-clause-claim
returns-clause-claim c = λ node s.
    subst (λ (claim : Option Request). IsClaimOf node c.args.worker claim)
    (sym (c.claim_of.ensures
    ∙ ap (claim_of c.args.worker) c.as_slice.ensures
    ∙ ap (λ (k : KeptNode). claim_of c.args.worker k.slots) c.self.view_is))
    (claim_is c.args.self.now node s c.args.worker)
