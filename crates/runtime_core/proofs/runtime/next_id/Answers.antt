use Rattle.runtime_core.proofs.ById.{next_by_id}
use Rattle.runtime_core.proofs.runtime.next_id.Goals as goal

pub returns : goal.returns
returns c = next_by_id c.args.registry.now c.args._lists.now c.requires c.args.above c.next_id.result
    c.next_id.ensures
