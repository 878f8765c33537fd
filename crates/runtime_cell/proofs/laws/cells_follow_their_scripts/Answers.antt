use Rattle.runtime_cell.proofs.Follows.{fresh_follows, stepped_follows, started_follows, killed_follows}
use Rattle.runtime_cell.proofs.laws.cells_follow_their_scripts.Goals as goal

pub returns-clause-created : goal.returns-clause-created
returns-clause-created c = fresh_follows c.stacks_judge_every_call.ensures.every

pub returns-clause-started : goal.returns-clause-started
returns-clause-started c = started_follows

pub returns-clause-stepped : goal.returns-clause-stepped
returns-clause-stepped c = stepped_follows c.stacks_judge_every_call.ensures.one

pub returns-clause-killed : goal.returns-clause-killed
returns-clause-killed c = killed_follows
