use Rattle.std.proofs.Common.{refl}
use Rattle.runner.proofs.rounds.RunnerVisitsVisits.visit.Goals as goal

pub returns-in_err-next-clause-may : goal.returns-in_err-next-clause-may
returns-in_err-next-clause-may g c = rw c.from_residual.ensures (record {
  own = tt;
  looked = c.next_cell.new.me;
  looks = c.in_err-next.ensures.looks;
  steps = refl;
})
