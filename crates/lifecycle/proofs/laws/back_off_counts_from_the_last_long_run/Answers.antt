use Rattle.std.proofs.Common.{◌∙◌, arith}
use Rattle.lifecycle.proofs.Rows.{row_begins, row_on}
use Rattle.lifecycle.proofs.laws.back_off_counts_from_the_last_long_run.Goals as goal

pub returns-clause-long : goal.returns-clause-long
returns-clause-long c = row_begins

pub returns-clause-none_long : goal.returns-clause-none_long
returns-clause-none_long c runs short = row_on 0 runs short ∙ omega arith
