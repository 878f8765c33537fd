use Rattle.std.proofs.Common.{◌≡◌, ◌≢◌, ◌∙◌, Err, ap}
use Rattle.bpf_code.specs.declared.fault.CodeFault.TheVariants.{Memory}
use Rattle.bpf_verify.specs.declared.refusal.Refusal.TheVariants.{Code, Filter}
use Rattle.motchidu_c.specs.Status.{status_of}
use Rattle.motchidu_c.proofs.comparing.checked.Goals as goal

pub returns-in-Ok-clause-first : goal.returns-in-Ok-clause-first
returns-in-Ok-clause-first c fault spells enough =
    let told = c.in-Ok.ensures.first spells.code fault spells.text spells.short spells.first (λ e. cc) in
    cc

pub returns-in-Err-clause-first : goal.returns-in-Err-clause-first
returns-in-Err-clause-first c fault spells enough =
    let not_memory : c.in-Err.refusal ≢ Code Memory = λ e.
    enough (ap Err (c.status_of.ensures ∙ ap status_of e)) in
    let told = c.in-Err.ensures.first spells.code fault spells.text spells.short spells.first
    (λ e. not_memory (cc)) in
    let same : c.in-Err.refusal ≡ Filter fault = cc in
    ap Err (c.status_of.ensures ∙ ap status_of same)
