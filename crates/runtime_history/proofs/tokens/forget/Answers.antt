use Rattle.runtime_history.proofs.Moves.{forgets}
use Rattle.runtime_history.proofs.tokens.forget.Goals as goal

pub load-requires : goal.load-requires
load-requires g c =
    let r = c.requires in
    (r.me, r.table, rw (r.id, r.lent.2) (forgets _ _ _ _ _ _ _ _ _ r.lent.3))
