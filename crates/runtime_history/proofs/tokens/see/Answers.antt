use Rattle.runtime_history.proofs.Moves.{sees}
use Rattle.runtime_history.proofs.tokens.see.Goals as goal

pub load-requires : goal.load-requires
load-requires g c =
    let r = c.requires in
    (r.me, r.table, rw (r.baseline, r.lent.2) (sees _ _ _ _ _ _ _))
