use Rattle.std.proofs.Common.{sym}
use Rattle.std.proofs.lemmas.Result.{err_from_is_err_and}
use Rattle.json_place.proofs.SameReading.{same_value, not_refused}
use Rattle.script.proofs.reader.read.Goals as goal

pub returns-in_err-read_placed_with-clause-only : goal.returns-in_err-read_placed_with-clause-only
returns-in_err-read_placed_with-clause-only c = λ steps is.
    let p = err_from_is_err_and c.from_residual.result c.from_residual.ensures.1 in
    rw (p.1, p.2) (λ not_memory. sym (not_refused steps c.in_err-read_placed_with.field-0.0 _
    (sym (c.in_err-read_placed_with.ensures.only steps is not_memory))))

pub returns-clause-only : goal.returns-clause-only
returns-clause-only c = λ steps is. same_value _ _ (c.in_ok-read_placed_with.ensures.only steps is)
