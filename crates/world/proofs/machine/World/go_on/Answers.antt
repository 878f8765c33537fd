use Rattle.std.proofs.Common.{refl, subst, sym}
use Rattle.world.specs.contracts.machine.World.{the_view}
use Rattle.world.specs.declared.events.WorldEvent.TheVariants.{Agent}
use Rattle.world.specs.Kept.{KeptWorld, StandsFor}
use Rattle.world.proofs.Steps.{acts, reached_more, stays_sent}
use Rattle.world.proofs.machine.World.go_on.Goals as goal

pub invariant_of-self : goal.invariant_of-self
invariant_of-self c =
    reached_more (the_view c.self.inside) _ (Agent c.args.act)
    (acts (the_view c.self.inside) _ c.args.act c.event.result c.apply.result c.event.ensures
    c.apply.ensures.step
    refl (stays_sent _ c.args.act c.event.result c.apply.result _ c.event.ensures c.requires
    c.apply.ensures.kept c.self.inside.sent.items) refl)
    c.self.invariant

pub returns : goal.returns
returns c = λ world s.
    acts (the_view c.self.inside) _ c.args.act c.event.result c.apply.result c.event.ensures
    c.apply.ensures.step
    refl (stays_sent _ c.args.act c.event.result c.apply.result _ c.event.ensures c.requires
    c.apply.ensures.kept c.self.inside.sent.items) refl
    world (subst (λ (k : KeptWorld). StandsFor k world) (sym c.self.view_is) s)
