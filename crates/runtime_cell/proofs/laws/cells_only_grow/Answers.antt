use Rattle.runtime_cell.proofs.Grows.{later_same, later_on, later_started, later_stepped, later_killed}
use Rattle.runtime_cell.proofs.laws.cells_only_grow.Goals as goal

pub returns-clause-same : goal.returns-clause-same
returns-clause-same c = later_same

pub returns-clause-later : goal.returns-clause-later
returns-clause-later c = later_on

pub returns-clause-started : goal.returns-clause-started
returns-clause-started c = later_started

pub returns-clause-stepped : goal.returns-clause-stepped
returns-clause-stepped c = later_stepped

pub returns-clause-killed : goal.returns-clause-killed
returns-clause-killed c = later_killed
