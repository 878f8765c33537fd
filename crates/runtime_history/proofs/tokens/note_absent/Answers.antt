use Rattle.runtime_history.proofs.Moves.{goes_on, served_alone}
use Rattle.runtime_history.proofs.tokens.note_absent.Goals as goal

pub load-requires : goal.load-requires
load-requires g c =
    let r = c.requires in
    let l = r.lent in (
      r.me,
      r.table,
      rw (r.event.0, r.event.1, r.event.2, l.3) (goes_on _ _ _ _ _ _ _ _ _
          (λ s has cells. served_alone s l.0 _ _ _ _ l.2 l.1 l.5 l.6 l.4 has)),
    )
