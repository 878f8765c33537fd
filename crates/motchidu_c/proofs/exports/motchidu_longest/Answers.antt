use Rattle.std.proofs.Common.{◌≡◌, ◌≢◌, ◌∙◌, ap}
use Rattle.bpf_code.specs.declared.fault.CodeFault.TheVariants.{Memory}
use Rattle.bpf_verify.specs.declared.refusal.Refusal.TheVariants.{Code, Filter}
use Rattle.motchidu_c.specs.Status.{number_of, status_of}
use Rattle.motchidu_c.proofs.exports.motchidu_longest.Goals as goal

pub returns-in-Ok-clause-first : goal.returns-in-Ok-clause-first
returns-in-Ok-clause-first c code fault is short first enough =
    let told = c.in-Ok.ensures.first code fault is short first (λ e. cc) in
    cc

pub returns-in-Err-clause-first : goal.returns-in-Err-clause-first
returns-in-Err-clause-first c code fault is short first enough =
    let not_memory : c.in-Err.refusal ≢ Code Memory = λ e.
    enough (c.report_refusal.ensures.number ∙ ap (λ r. number_of (status_of r)) e) in
    let told = c.in-Err.ensures.first code fault is short first (λ e. not_memory (cc)) in
    let same : c.in-Err.refusal ≡ Filter fault = cc in
    c.report_refusal.ensures.number ∙ ap (λ r. number_of (status_of r)) same
