use Rattle.runtime_history.proofs.Locks.{blanks}
use Rattle.runtime_history.proofs.keyed.seize_blank.Goals as goal

pub swap-requires : goal.swap-requires
swap-requires g c =
    let r = c.requires in
    (r.table.0, r.table.1, rw r.seat (blanks _ _ _ _))
