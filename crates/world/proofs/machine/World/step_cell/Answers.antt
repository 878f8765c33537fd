use Rattle.std.proofs.Common.{refl, subst, sym}
use Rattle.runtime_core.specs.Stands.{stands_for}
use Rattle.runtime_core.specs.Steps.{HasNone}
use Rattle.world.specs.contracts.machine.World.{the_view}
use Rattle.world.specs.declared.events.WorldEvent.TheVariants.{StepCell}
use Rattle.world.specs.Kept.{KeptWorld, StandsFor}
use Rattle.world.proofs.Steps.{did_step, steps, reached_more}
use Rattle.world.proofs.machine.World.step_cell.Goals as goal

pub returns-in_default-clause-cause : goal.returns-in_default-clause-cause
returns-in_default-clause-cause c = (
  refl,
  subst (λ (k : KeptWorld). HasNone (stands_for k.runtime) c.args.id) c.self.view_is c.in_default.ensures,
)

pub invariant_of-self : goal.invariant_of-self
invariant_of-self c =
    let did : _ = did_step _ _ c.args.id c.in-Some._cell.now c.in-Some.ensures c.step-did.result
    c.step-did.ensures in
    reached_more (the_view c.self.inside) _ (StepCell c.args.id)
    (steps (the_view c.self.inside) _ c.args.id did.0 did.1 refl refl refl) c.self.invariant

pub returns-clause-step : goal.returns-clause-step
returns-clause-step c = λ world s.
    let did : _ = did_step _ _ c.args.id c.in-Some._cell.now c.in-Some.ensures c.step-did.result
    c.step-did.ensures in
    steps (the_view c.self.inside) _ c.args.id did.0 did.1 refl refl refl
    world (subst (λ (k : KeptWorld). StandsFor k world) (sym c.self.view_is) s)
