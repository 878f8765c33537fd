use Rattle.std.proofs.Common.{List, [], ◌∷◌, ◌++◌, slice_get, ◌∙◌, ap, refl, subst, sym}
use Rattle.cri_msgs.specs.declared.calls.Request.{Request}
use Rattle.registry.specs.Serves.{Serves}
use Rattle.runtime_core.specs.Stands.{stands_for}
use Rattle.world.specs.contracts.machine.World.{the_view}
use Rattle.world.specs.declared.events.WorldEvent.TheVariants.{Serve}
use Rattle.world.specs.declared.exchanges.Exchange.{Exchange}
use Rattle.world.specs.Kept.{IsReached, KeptWorld, StandsFor}
use Rattle.world.proofs.Steps.{reached_more, serves}
use Rattle.world.proofs.machine.World.serve.Goals as goal

pub invariant_of-self : goal.invariant_of-self
invariant_of-self c =
    subst (λ (given : List Exchange). IsReached
    (record {
      node = c.self.inside.node;
      runtime = c.self.inside.runtime;
      sent = c.self.inside.sent.items;
      given = given;
    }))
    (sym c.in_err-reserve.ensures.items) c.self.invariant

pub invariant_of-self-2 : goal.invariant_of-self-2
invariant_of-self-2 c =
    reached_more (the_view c.self.inside) _ (Serve c.args.which c.args.files)
    (serves (the_view c.self.inside) _ c.args.which c.in_ok-request.request c.args.files c.serve-reply.result
    (ap (λ (x : List Request). slice_get x c.args.which) (sym c.as_slice.ensures.value)
    ∙ c.in_ok-request.ensures.ok)
    (c.serve-reply.ensures.number ∙ ap (λ (r : Request). r.id) c.in_ok-copy.ensures)
    (subst (λ (r : Request). Serves (stands_for c.self.inside.runtime) r.call c.args.files
    c.serve-reply.result.answer (stands_for c.serve-reply.new.self)) c.in_ok-copy.ensures
    c.serve-reply.ensures.serves)
    refl refl
    (c.pushed.ensures ∙ ap (λ (x : List Exchange).
    x ++ record { request = c.in_ok-request.request; reply = c.serve-reply.result } ∷ [])
    c.in_ok-reserve.ensures.items))
    c.self.invariant

pub returns-clause-step : goal.returns-clause-step
returns-clause-step c = λ world s.
    serves (the_view c.self.inside) _ c.args.which c.in_ok-request.request c.args.files c.serve-reply.result
    (ap (λ (x : List Request). slice_get x c.args.which) (sym c.as_slice.ensures.value)
    ∙ c.in_ok-request.ensures.ok)
    (c.serve-reply.ensures.number ∙ ap (λ (r : Request). r.id) c.in_ok-copy.ensures)
    (subst (λ (r : Request). Serves (stands_for c.self.inside.runtime) r.call c.args.files
    c.serve-reply.result.answer (stands_for c.serve-reply.new.self)) c.in_ok-copy.ensures
    c.serve-reply.ensures.serves)
    refl refl
    (c.pushed.ensures ∙ ap (λ (x : List Exchange).
    x ++ record { request = c.in_ok-request.request; reply = c.serve-reply.result } ∷ [])
    c.in_ok-reserve.ensures.items)
    world (subst (λ (k : KeptWorld). StandsFor k world) (sym c.self.view_is) s)
