use Rattle.worker_crew.proofs.Changed.{adds_so}
use Rattle.worker_crew.proofs.observer.Observer.add.Goals as goal

pub returns-in-Ok : goal.returns-in-Ok
returns-in-Ok c = adds_so (λ text is. (c.in-Ok.line, c.in-Ok.is, is)) c.add_line.ensures
