use Rattle.std.proofs.Common.{◌≡◌, ◌≢◌, ◌∙◌, Err, ap}
use Rattle.oci_profile.specs.declared.faults.ProfileFault.TheVariants.{Memory}
use Rattle.motchidu_c.specs.Status.{status_of_profile}
use Rattle.motchidu_c.proofs.explaining.explanation.Goals as goal

pub returns-in-Err-clause-first : goal.returns-in-Err-clause-first
returns-in-Err-clause-first c found is enough =
    let not_memory : c.in-Err.found.fault ≢ Memory = λ e.
    enough (ap Err (c.status_of_profile.ensures ∙ ap status_of_profile e)) in
    let told = c.in-Err.ensures.first not_memory in
    let same : c.in-Err.found ≡ found = cc in
    ap Err (c.status_of_profile.ensures ∙ ap (λ it. status_of_profile it.fault) same)

pub returns-in-Err-clause-accepts : goal.returns-in-Err-clause-accepts
returns-in-Err-clause-accepts c p reads enough =
    let not_memory : c.in-Err.found.fault ≢ Memory = λ e.
    enough (ap Err (c.status_of_profile.ensures ∙ ap status_of_profile e)) in
    let never = c.in-Err.ensures.only p reads not_memory in
    absurd cc
