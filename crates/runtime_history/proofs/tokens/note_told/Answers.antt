use Rattle.runtime_history.proofs.Moves.{goes_on, told_cells}
use Rattle.runtime_history.proofs.tokens.note_told.Goals as goal

pub load-requires : goal.load-requires
load-requires g c =
    let r = c.requires in (
      r.me.0,
      r.table,
      rw (r.event.0, r.event.1, r.event.2, r.me.1) (goes_on _ _ _ _ _ _ _ _ _
          (λ s has cells. told_cells s _ _ _ _ r.told cells)),
    )
