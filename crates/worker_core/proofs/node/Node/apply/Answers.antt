use Rattle.worker_core.proofs.Steps.{comes}
use Rattle.worker_core.proofs.node.Node.apply.Goals as goal

pub returns-clause-step : goal.returns-clause-step
returns-clause-step c = comes c.args.self.now c.args.event c.take.result c.take.new.self c.take.ensures
