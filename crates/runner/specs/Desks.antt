-- What happens at the desk where large texts are read, this project's own: docs/SEMANTICS.md, "Serving a
-- connection". Private functions cite this.
use Rattle.std.specs.Prelude.{Bool, true, false, Option, Some, None}
use Rattle.runner.specs.declared.desk.Desk.{Desk}
use Rattle.runner.specs.declared.desk.Desk.TheVariants.{Closed, Free, InWork, Laid, Read, Taken, Unattended}
use Rattle.runner.specs.declared.reading.Job.{Job}
use Rattle.runner.specs.declared.reading.Outcome.{Outcome}

abbrev pub after_open : Desk → Desk
after_open Unattended = Free
after_open desk = desk

abbrev pub after_take : Desk → Desk
after_take Free = Taken
after_take desk = desk

abbrev pub after_lay : Desk → Job → Desk
after_lay Taken job = Laid job
after_lay desk job = desk

abbrev pub text_on : Desk → Option Job
text_on (Laid job) = Some job
text_on desk = None

abbrev pub after_start : Desk → Desk
after_start (Laid job) = InWork
after_start desk = desk

abbrev pub after_put : Desk → Outcome → Desk
after_put InWork outcome = Read outcome
after_put desk outcome = desk

abbrev pub outcome_on : Desk → Option Outcome
outcome_on (Read outcome) = Some outcome
outcome_on desk = None

abbrev pub after_collect : Desk → Desk
after_collect (Read outcome) = Taken
after_collect desk = desk

abbrev pub after_leave : Desk → Desk
after_leave Taken = Free
after_leave desk = desk

-- a text is on the desk, or is being read
abbrev pub is_waited_for : Desk → Bool
is_waited_for (Laid job) = true
is_waited_for InWork = true
is_waited_for desk = false

-- someone has the desk
abbrev pub is_in_use : Desk → Bool
is_in_use Taken = true
is_in_use (Laid job) = true
is_in_use InWork = true
is_in_use (Read outcome) = true
is_in_use desk = false

-- there is nothing to read, and there may be something later
abbrev pub has_no_work : Desk → Bool
has_no_work (Laid job) = false
has_no_work Closed = false
has_no_work desk = true
