use Rattle.std.proofs.Common.{◌≡◌, ◌≢◌, ◌∙◌, ap, sym}
use Rattle.bpf_compare.specs.declared.comparison.Comparison.TheVariants.{Same}
use Rattle.motchidu_c.specs.declared.status.Status.TheVariants.{Memory}
use Rattle.motchidu_c.specs.Status.{number_of, status_of_code}
use Rattle.motchidu_c.proofs.Answered.{is_same}
use Rattle.motchidu_c.proofs.comparing.motchidu_compare.Goals as goal

pub returns-in-Ok-clause-same : goal.returns-in-Ok-clause-same
returns-in-Ok-clause-same c e =
    let same : c.in-Ok.found ≡ Same =
    is_same c.in-Ok.found (sym (c.number.ensures ∙ ap number_of c.status_of_comparison.ensures) ∙ e) in
    rw (same, c.scope_of.ensures) at c.in-Ok.ensures.found

pub returns-in-Err-clause-first_fault : goal.returns-in-Err-clause-first_fault
returns-in-Err-clause-first_fault c fault spells enough =
    let not_memory : c.in-Err.status ≢ Memory = λ e.
    enough (c.number-in-Err.ensures ∙ ap number_of e) in
    let told = c.in-Err.ensures.first_fault fault spells (λ e. not_memory (cc)) in
    let same : c.in-Err.status ≡ status_of_code fault = cc in
    c.number-in-Err.ensures ∙ ap number_of same
