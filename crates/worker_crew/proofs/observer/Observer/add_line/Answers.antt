use Rattle.std.proofs.Common.{refl}
use Rattle.worker_crew.proofs.Changed.{puts}
use Rattle.worker_crew.proofs.observer.Observer.add_line.Goals as goal

pub returns-else-not-put : goal.returns-else-not-put
returns-else-not-put c = puts c.args.line refl (c.if-not-put.ensures.kept refl)
