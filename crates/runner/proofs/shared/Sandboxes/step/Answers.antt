use Rattle.std.proofs.Common.{subst, sym}
use Rattle.registry.specs.declared.registry.Registry.{Registry}
use Rattle.runner.specs.Shared.{AreListed}
use Rattle.runner.proofs.shared.Sandboxes.step.Goals as goal

pub invariant_of-self : goal.invariant_of-self
invariant_of-self g c =
    let was = c.args.self.now in
    record {
      listed = subst (λ (r : Registry). AreListed r was.lists) (sym c.step_home.ensures.registry) was.listed;
      kept = λ lacks id at. was.kept lacks id (c.step_home.ensures.may_run id at);
    }
