use Rattle.std.proofs.Common.{subst}
use Rattle.runtime_core.specs.Stands.{Held, stands_for}
use Rattle.runtime_core.specs.Steps.{IsNext}
use Rattle.runtime_core.proofs.runtime.Runtime.next_id.Goals as goal

pub returns : goal.returns
returns c = subst (λ (held : Held). IsNext (stands_for held) c.args.above c.next_id.result) c.self.view_is
    c.next_id.ensures
