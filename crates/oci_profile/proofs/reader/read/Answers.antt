use Rattle.std.proofs.Common.{sym}
use Rattle.std.proofs.lemmas.Result.{err_from_is_err_and}
use Rattle.json_place.proofs.SameReading.{same_value, not_refused}
use Rattle.oci_profile.proofs.reader.read.Goals as goal

pub returns-in_err-read_placed-clause-only : goal.returns-in_err-read_placed-clause-only
returns-in_err-read_placed-clause-only c = λ profile is.
    let p = err_from_is_err_and c.from_residual.result c.from_residual.ensures.1 in
    rw (p.1, p.2) (λ not_memory. sym (not_refused profile c.in_err-read_placed.field-0.0 _
    (sym (c.in_err-read_placed.ensures.only profile is not_memory))))

pub returns-clause-only : goal.returns-clause-only
returns-clause-only c = λ profile is. same_value _ _ (c.in_ok-read_placed.ensures.only profile is)
