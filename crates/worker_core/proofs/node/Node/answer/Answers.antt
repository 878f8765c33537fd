use Rattle.worker_core.proofs.Steps.{foresees}
use Rattle.worker_core.proofs.node.Node.answer.Goals as goal

pub returns-clause-answer : goal.returns-clause-answer
returns-clause-answer c = foresees c.args.self.now c.args.event.now c.foreseen.result c.foreseen.ensures
