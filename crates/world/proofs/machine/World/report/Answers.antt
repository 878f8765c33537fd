use Rattle.std.proofs.Common.{List, Option, option_copied, refl, subst, sym}
use Rattle.cri_msgs.specs.declared.calls.Request.{Request}
use Rattle.worker_core.specs.Slots.{claim_of}
use Rattle.world.specs.contracts.machine.World.{the_view}
use Rattle.world.specs.declared.events.WorldEvent.TheVariants.{Report}
use Rattle.world.specs.declared.exchanges.Exchange.{Exchange}
use Rattle.world.specs.Kept.{KeptWorld, LacksReply, StandsFor, WasGiven}
use Rattle.world.proofs.Steps.{reached_more, reports}
use Rattle.world.proofs.machine.World.report.Goals as goal

pub invariant_of-self : goal.invariant_of-self
invariant_of-self c =
    reached_more (the_view c.self.inside) _ (Report c.args.worker c.args.which)
    (reports (the_view c.self.inside) _ c.args.worker c.args.which (option_copied c.claim_of-claim.result)
    c.in-Ok.reply c.apply.result
    (subst (λ (g : List Exchange). WasGiven g c.args.which (option_copied c.claim_of-claim.result)
    c.in-Ok.reply) c.as_slice.ensures.value c.in-Ok.ensures.ok)
    c.claim_of-claim.ensures.claim c.apply.ensures.step refl refl refl)
    c.self.invariant

pub returns-in-Ok-clause-step : goal.returns-in-Ok-clause-step
returns-in-Ok-clause-step c = λ world s.
    reports (the_view c.self.inside) _ c.args.worker c.args.which (option_copied c.claim_of-claim.result)
    c.in-Ok.reply c.apply.result
    (subst (λ (g : List Exchange). WasGiven g c.args.which (option_copied c.claim_of-claim.result)
    c.in-Ok.reply) c.as_slice.ensures.value c.in-Ok.ensures.ok)
    c.claim_of-claim.ensures.claim c.apply.ensures.step refl refl refl
    world (subst (λ (k : KeptWorld). StandsFor k world) (sym c.self.view_is) s)

pub returns-in-Err-clause-cause : goal.returns-in-Err-clause-cause
returns-in-Err-clause-cause c =
    subst (λ (k : KeptWorld). LacksReply k.given c.args.which
    (claim_of c.args.worker k.node.slots) c.in-Err.fault) c.self.view_is
    (subst (λ (g : List Exchange). LacksReply g c.args.which (claim_of c.args.worker c.self.inside.node.slots)
    c.in-Err.fault) c.as_slice.ensures.value
    (subst (λ (q : Option Request). LacksReply c.as_slice.result.now c.args.which q c.in-Err.fault)
    c.claim_of-claim.ensures.kept c.in-Err.ensures.err))
