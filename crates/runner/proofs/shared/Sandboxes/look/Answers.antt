use Rattle.runner.proofs.Started.{looks_for, may_be_visited}
use Rattle.runner.proofs.shared.Sandboxes.look.Goals as goal

pub returns : goal.returns
returns g c =
    let was = c.args.self.now in
    rw c.look.ensures.same (looks_for _ _ _ _ _
    (may_be_visited was.registered.0 was.registered.1 was.due was.kept) c.look.ensures.looks)
