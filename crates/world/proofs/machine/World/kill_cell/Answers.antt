use Rattle.std.proofs.Common.{refl, subst, sym}
use Rattle.runtime_core.specs.Stands.{stands_for}
use Rattle.runtime_core.specs.Steps.{HasNone}
use Rattle.world.specs.contracts.machine.World.{the_view}
use Rattle.world.specs.declared.events.WorldEvent.TheVariants.{KillCell}
use Rattle.world.specs.Kept.{KeptWorld, StandsFor}
use Rattle.world.proofs.Steps.{kills, was_killed, reached_more}
use Rattle.world.proofs.machine.World.kill_cell.Goals as goal

pub returns-in_default-clause-cause : goal.returns-in_default-clause-cause
returns-in_default-clause-cause c = (
  refl,
  subst (λ (k : KeptWorld). HasNone (stands_for k.runtime) c.args.id) c.self.view_is c.in_default.ensures,
)

pub invariant_of-self : goal.invariant_of-self
invariant_of-self c =
    reached_more (the_view c.self.inside) _ (KillCell c.args.id c.args.code)
    (kills (the_view c.self.inside) _ c.args.id c.args.code
    (was_killed _ _ c.args.id c.args.code c.in-Some._cell.now c.in-Some.ensures c.kill-found.result
    c.kill-found.ensures)
    refl refl refl)
    c.self.invariant

pub returns-clause-step : goal.returns-clause-step
returns-clause-step c = λ world s.
    kills (the_view c.self.inside) _ c.args.id c.args.code
    (was_killed _ _ c.args.id c.args.code c.in-Some._cell.now c.in-Some.ensures c.kill-found.result
    c.kill-found.ensures)
    refl refl refl
    world (subst (λ (k : KeptWorld). StandsFor k world) (sym c.self.view_is) s)
