use Rattle.registry.specs.Kept.{home_in}
use Rattle.runner.specs.Labelled.{visited}
use Rattle.runner.proofs.Started.{looks_for, not_passed}
use Rattle.runner.proofs.shared.Sandboxes.next.Goals as goal

pub returns-clause-looks : goal.returns-clause-looks
returns-clause-looks g c =
    let here = c.look.new.self in
    looks_for _ _ _ _ _ (not_passed c.args.runner c.args.runners
    (home_in (visited here.registered.0.homes here.due)) c.args.above _ c.next_cell.ensures) c.look.ensures
