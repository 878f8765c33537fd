use Rattle.std.proofs.Common.{rules, subst, sym}
use Rattle.atomic_table.specs.Table.{Allows}
use Rattle.runtime_history.specs.Keyed.{Guarded}
use Rattle.runtime_history.proofs.Locks.{releases}
use Rattle.runtime_history.proofs.keyed.give.Goals as goal

pub store-requires : goal.store-requires
store-requires g c = let fits = g.T.Keyed.fits c.args.shared.now.key in let seat = c.exchange.new.seat in (
  search rules,
  search rules,
  subst (λ n. Allows (Guarded fits) n seat.id seat.me 0 (λ _. 0)
      (λ _ _. Unit {0})) (sym c.requires.table.1)
      (releases fits _ _ _ _ _ c.exchange.ensures.3 c.requires.value),
)
