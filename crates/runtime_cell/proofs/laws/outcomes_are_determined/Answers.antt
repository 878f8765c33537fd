use Rattle.runtime_cell.proofs.Outcomes.{outcome_one, outcome_some}
use Rattle.runtime_cell.proofs.laws.outcomes_are_determined.Goals as goal

pub returns-clause-some : goal.returns-clause-some
returns-clause-some c = outcome_some c.stacks_judge_every_call.ensures.every

pub returns-clause-one : goal.returns-clause-one
returns-clause-one c = outcome_one c.stacks_judge_every_call.ensures.one
