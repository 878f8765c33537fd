use Rattle.std.proofs.Common.{rules}
use Rattle.worker_core.proofs.Lists.{ended_by_push}
use Rattle.worker_core.proofs.slots.pushed.Goals as goal

pub returns-clause-by : goal.returns-clause-by
returns-clause-by c = λ now by. ended_by_push now c.args.slots.now.items c.push-pushed.new.self.items
    c.args.slot (search rules) c.requires.fresh by
