use Rattle.sys_table.proofs.TableRules.{kept}
use Rattle.sys_table.proofs.laws.later_calls_are_added.Goals as goal

pub returns : goal.returns
returns c = kept
