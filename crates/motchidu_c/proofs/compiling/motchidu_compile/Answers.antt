use Rattle.std.proofs.Common.{◌≡◌, ◌≢◌, ◌<◌, ◌≤◌, ◌∙◌, ap, arith, inl, inr}
use Rattle.bpf_code.specs.declared.limits.TheConstants.{MAX_INSNS}
use Rattle.oci_profile.specs.Meaning.{weight}
use Rattle.oci_profile.specs.declared.faults.ProfileFault.TheVariants as kind
use Rattle.motchidu_c.specs.Status.{number_of, status_of_profile}
use Rattle.motchidu_c.proofs.compiling.motchidu_compile.Goals as goal

pub returns-in-Ok-clause-heavy : goal.returns-in-Ok-clause-heavy
returns-in-Ok-clause-heavy c p reads heavy enough =
    let read = c.in-Ok.ensures.only p reads in
    let same : p ≡ c.in-Ok.profile = cc in
    let more : MAX_INSNS < weight c.in-Ok.profile = omega (arith, heavy, ap weight same) in
    c.number.ensures ∙ ap number_of (c.compiled.ensures.heavy more
    (λ e. enough (c.number.ensures ∙ ap number_of e)))

pub returns-in-Ok-clause-accepts : goal.returns-in-Ok-clause-accepts
returns-in-Ok-clause-accepts c p reads light enough =
    let read = c.in-Ok.ensures.only p reads in
    let same : p ≡ c.in-Ok.profile = cc in
    let less : weight c.in-Ok.profile ≤ MAX_INSNS = omega (arith, light, ap weight same) in
    elim (c.compiled.ensures.accepts less (λ e. enough (c.number.ensures ∙ ap number_of e))) [
      | inl accepted ↦ inl (c.number.ensures ∙ ap number_of accepted)
      | inr no_room ↦ inr (c.number.ensures ∙ ap number_of no_room)
    ]

pub returns-in-Err-clause-first : goal.returns-in-Err-clause-first
returns-in-Err-clause-first c fault is enough =
    let not_memory : c.in-Err.fault ≢ kind.Memory = λ e. enough (c.number-in-Err.ensures
    ∙ ap number_of (c.status_of_profile.ensures ∙ ap status_of_profile e)) in
    let told = c.in-Err.ensures.first not_memory in
    let same : c.in-Err.fault ≡ fault = cc in
    c.number-in-Err.ensures ∙ ap number_of (c.status_of_profile.ensures ∙ ap status_of_profile same)

pub returns-in-Err-clause-heavy : goal.returns-in-Err-clause-heavy
returns-in-Err-clause-heavy c p reads heavy enough =
    let not_memory : c.in-Err.fault ≢ kind.Memory = λ e. enough (c.number-in-Err.ensures
    ∙ ap number_of (c.status_of_profile.ensures ∙ ap status_of_profile e)) in
    let never = c.in-Err.ensures.only p reads not_memory in
    absurd cc

pub returns-in-Err-clause-accepts : goal.returns-in-Err-clause-accepts
returns-in-Err-clause-accepts c p reads light enough =
    let not_memory : c.in-Err.fault ≢ kind.Memory = λ e. enough (c.number-in-Err.ensures
    ∙ ap number_of (c.status_of_profile.ensures ∙ ap status_of_profile e)) in
    let never = c.in-Err.ensures.only p reads not_memory in
    absurd cc
