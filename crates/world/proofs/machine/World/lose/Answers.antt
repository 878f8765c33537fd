use Rattle.std.proofs.Common.{subst, refl, sym}
use Rattle.world.specs.contracts.machine.World.{the_view}
use Rattle.world.specs.declared.events.WorldEvent.TheVariants.{Lose}
use Rattle.world.specs.Kept.{KeptWorld, StandsFor}
use Rattle.world.proofs.Steps.{loses, reached_more}
use Rattle.world.proofs.machine.World.lose.Goals as goal

pub invariant_of-self : goal.invariant_of-self
invariant_of-self c =
    reached_more (the_view c.self.inside) _ (Lose c.args.worker)
    (loses (the_view c.self.inside) _ c.args.worker c.apply.result c.apply.ensures.step refl refl refl)
    c.self.invariant

pub returns : goal.returns
returns c = λ world s.
    loses (the_view c.self.inside) _ c.args.worker c.apply.result c.apply.ensures.step refl refl refl
    world (subst (λ (k : KeptWorld). StandsFor k world) (sym c.self.view_is) s)
