use Rattle.std.proofs.Common.{subst, sym}
use Rattle.worker_core.specs.Slots.{AllEndedBy}
use Rattle.worker_core.proofs.slots.admitted.Goals as goal

pub returns-in-Ok-clause-by : goal.returns-in-Ok-clause-by
returns-in-Ok-clause-by c = λ now by. c.reserved.ensures.by now
    (subst (AllEndedBy now) (sym c.in-Ok.ensures.items) by)
