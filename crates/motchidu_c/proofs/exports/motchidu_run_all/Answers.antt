use Rattle.std.proofs.Common.{◌≡◌, ◌≢◌, ◌∙◌, ap, sym}
use Rattle.bpf_code.specs.declared.fault.CodeFault.TheVariants.{Memory}
use Rattle.bpf_verify.specs.declared.refusal.Refusal.TheVariants.{Code, Filter}
use Rattle.motchidu_c.specs.Status.{number_of, status_of}
use Rattle.motchidu_c.proofs.Answered.{is_not_lengths}
use Rattle.motchidu_c.proofs.exports.motchidu_run_all.Goals as goal

pub returns-in-Err-clause-lengths : goal.returns-in-Err-clause-lengths
returns-in-Err-clause-lengths c = (
  λ e. absurd (is_not_lengths c.in-Err.refusal
      (sym (c.number-in-Err.ensures ∙ ap number_of c.status_of.ensures) ∙ e)),
  λ no_room. absurd (no_room (c.have_room.ensures.0 search)),
)

pub returns-in-Ok-clause-first : goal.returns-in-Ok-clause-first
returns-in-Ok-clause-first c room code fault is short first enough =
    let told = c.in-Ok.ensures.first code fault is short first (λ e. cc) in
    cc

pub returns-in-Err-clause-first : goal.returns-in-Err-clause-first
returns-in-Err-clause-first c room code fault is short first enough =
    let not_memory : c.in-Err.refusal ≢ Code Memory = λ e.
    enough (c.number-in-Err.ensures ∙ ap number_of (c.status_of.ensures ∙ ap status_of e)) in
    let told = c.in-Err.ensures.first code fault is short first (λ e. not_memory (cc)) in
    let same : c.in-Err.refusal ≡ Filter fault = cc in
    c.number-in-Err.ensures ∙ ap number_of (c.status_of.ensures ∙ ap status_of same)
