use Rattle.std.proofs.Common.{subst}
use Rattle.std.specs.Prelude.{option_copied}
use Rattle.runtime_core.specs.Stands.{Held, stands_for}
use Rattle.runtime_core.specs.Steps.{Reads}
use Rattle.runtime_core.proofs.runtime.Runtime.cell.Goals as goal

pub returns : goal.returns
returns c = subst (λ (held : Held). Reads (stands_for held) c.args.id (option_copied c.cell.result))
    c.self.view_is c.cell.ensures
