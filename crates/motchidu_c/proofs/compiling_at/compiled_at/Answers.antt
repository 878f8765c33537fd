use Rattle.std.proofs.Common.{◌≡◌, ◌<◌, ◌≤◌, ◌∙◌, [], ap, arith}
use Rattle.bpf_code.specs.declared.limits.TheConstants.{MAX_INSNS}
use Rattle.oci_profile.specs.Meaning.{weight}
use Rattle.oci_profile.specs.declared.faults.ProfileFault.TheVariants as kind
use Rattle.motchidu_c.specs.Status.{status_of_profile}
use Rattle.motchidu_c.proofs.TooLarge.{is_at_root}
use Rattle.motchidu_c.proofs.compiling_at.compiled_at.Goals as goal

pub returns-in-Ok-clause-heavy : goal.returns-in-Ok-clause-heavy
returns-in-Ok-clause-heavy c p reads heavy enough =
    let read = c.in-Ok.ensures.only p reads in
    let same : p ≡ c.in-Ok.profile = cc in
    let more : MAX_INSNS < weight c.in-Ok.profile = omega (arith, heavy, ap weight same) in
    c.compiled.ensures.heavy more enough

pub returns-in-Ok-clause-accepts : goal.returns-in-Ok-clause-accepts
returns-in-Ok-clause-accepts c p reads light enough =
    let read = c.in-Ok.ensures.only p reads in
    let same : p ≡ c.in-Ok.profile = cc in
    let less : weight c.in-Ok.profile ≤ MAX_INSNS = omega (arith, light, ap weight same) in
    c.compiled.ensures.accepts less enough

pub returns-in-Err-clause-large : goal.returns-in-Err-clause-large
returns-in-Err-clause-large c more =
    let is_large : c.in-Err.found.fault ≡ kind.TooLarge = c.in-Err.ensures.large.1 more in
    let first = c.in-Err.ensures.first (λ e. absurd cc) in
    let root : c.in-Err.found.place ≡ [] = is_at_root _ _ _ more first in
    c.write_place.ensures.whole root ∙ ap status_of_profile is_large

pub returns-in-Err-clause-first : goal.returns-in-Err-clause-first
returns-in-Err-clause-first c found is enough =
    let status = c.write_place.ensures.told enough in
    let first = c.in-Err.ensures.first (λ e. enough (status ∙ ap status_of_profile e)) in
    let same : c.in-Err.found ≡ found = cc in
    status ∙ ap (λ it. status_of_profile it.fault) same

pub returns-in-Err-clause-heavy : goal.returns-in-Err-clause-heavy
returns-in-Err-clause-heavy c p reads heavy enough =
    let status = c.write_place.ensures.told enough in
    let never = c.in-Err.ensures.only p reads (λ e. enough (status ∙ ap status_of_profile e)) in
    absurd cc

pub returns-in-Err-clause-accepts : goal.returns-in-Err-clause-accepts
returns-in-Err-clause-accepts c p reads light enough =
    let status = c.write_place.ensures.told enough in
    let never = c.in-Err.ensures.only p reads (λ e. enough (status ∙ ap status_of_profile e)) in
    absurd cc
