use Rattle.std.proofs.Common.{List, ◌++◌, ◌∙◌, ap, refl, subst, sym}
use Rattle.cri_msgs.specs.declared.calls.Request.{Request}
use Rattle.worker_core.specs.declared.events.AgentEvent.TheVariants as agent
use Rattle.world.specs.contracts.machine.World.{the_view}
use Rattle.world.specs.declared.events.Act.TheVariants as act
use Rattle.world.specs.declared.events.WorldEvent.TheVariants.{Agent}
use Rattle.world.specs.Kept.{IsReached, KeptWorld, StandsFor}
use Rattle.world.specs.World.{sent_by}
use Rattle.world.proofs.Steps.{acts, reached_more}
use Rattle.world.proofs.machine.World.claim.Goals as goal

pub invariant_of-self : goal.invariant_of-self
invariant_of-self c =
    subst (λ (sent : List Request). IsReached
    (record {
      node = c.self.inside.node;
      runtime = c.self.inside.runtime;
      sent = sent;
      given =
          c.self.inside.given.items;
    }))
    (sym c.in_err-reserve.ensures.items) c.self.invariant

pub invariant_of-self-2 : goal.invariant_of-self-2
invariant_of-self-2 c =
    reached_more (the_view c.self.inside) _ (Agent (act.Claim c.args.worker))
    (acts (the_view c.self.inside) _ (act.Claim c.args.worker)
    (agent.Claim c.args.worker) c.apply-answer.result refl c.apply-answer.ensures.step
    refl (c.keep_sent.ensures ∙ ap (λ (x : List Request). x ++ sent_by c.apply-answer.result)
    c.in_ok-reserve.ensures.items) refl)
    c.self.invariant

pub returns-clause-step : goal.returns-clause-step
returns-clause-step c = λ world s.
    acts (the_view c.self.inside) _ (act.Claim c.args.worker)
    (agent.Claim c.args.worker) c.apply-answer.result refl c.apply-answer.ensures.step
    refl (c.keep_sent.ensures ∙ ap (λ (x : List Request). x ++ sent_by c.apply-answer.result)
    c.in_ok-reserve.ensures.items) refl
    world (subst (λ (k : KeptWorld). StandsFor k world) (sym c.self.view_is) s)
