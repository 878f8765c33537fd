use Rattle.runtime_cell.proofs.Grows.{added, taken}
use Rattle.runtime_cell.proofs.laws.calls_are_judged_by_all_filters.Goals as goal

pub returns-clause-taken : goal.returns-clause-taken
returns-clause-taken c = taken

pub returns-clause-added : goal.returns-clause-added
returns-clause-added c = added

pub returns-clause-start_binds : goal.returns-clause-start_binds
returns-clause-start_binds c = λ cell. c.added_filters_widen_nothing.ensures.performs cell.making.stack
    cell.added
