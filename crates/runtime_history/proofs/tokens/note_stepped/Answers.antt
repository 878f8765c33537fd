use Rattle.runtime_history.proofs.Moves.{goes_on, stepped}
use Rattle.runtime_history.proofs.tokens.note_stepped.Goals as goal

pub load-requires : goal.load-requires
load-requires g c =
    let r = c.requires in
    let l = r.lent in (
      r.me,
      r.table,
      rw (r.event.0, r.event.1, r.event.2, l.1) (goes_on _ _ _ _ _ _ _ _ _
          (λ s has cells. stepped s _ l.0 _ _ _ l.2 l.3 cells)),
    )
