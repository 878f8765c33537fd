use Rattle.std.proofs.Common.{ℕ, subst, sym}
use Rattle.registry.specs.declared.registry.Registry.{Registry}
use Rattle.runtime_history.specs.Agreed.{IsHome, MayRun}
use Rattle.runner.proofs.Started.{looks_for}
use Rattle.runner.proofs.rounds.step_home.Goals as goal

-- The cell is in no sandbox, and each cell that runs is in one.
pub returns-in-None-clause-steps : goal.returns-in-None-clause-steps
returns-in-None-clause-steps g c =
    let was = c.args.registered.now in
    looks_for g.B.Node.filter c.args.me.now c.look.new.me (MayRun was.0 was.1) _
    (λ i may same. c.in-None.ensures.none may.1.0
    (subst (λ (r : Registry). IsHome r c.args.id may.1.0) (sym c.registry.ensures)
    (subst (λ (n : ℕ). IsHome was.0 n may.1.0) same may.1.1)))
    c.look.ensures.looks
