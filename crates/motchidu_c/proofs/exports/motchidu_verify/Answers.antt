use Rattle.std.proofs.Common.{◌≡◌, ◌≢◌, ◌∙◌, ap}
use Rattle.bpf_code.specs.declared.fault.CodeFault.TheVariants.{Memory}
use Rattle.bpf_verify.specs.declared.refusal.Refusal.TheVariants.{Code, Filter}
use Rattle.motchidu_c.specs.Status.{number_of, status_of}
use Rattle.motchidu_c.proofs.exports.motchidu_verify.Goals.{in-Ok, in-Err}
use Rattle.motchidu_c.proofs.exports.motchidu_verify.Goals as goal

pub returns-clause-first : goal.returns-clause-first
returns-clause-first c code fault is short first enough = elim c.match-filter_of.branch [
  | in-Ok w ↦
      let told = w.in-Ok.ensures.first code fault is short first (λ e. cc) in
      cc
  | in-Err w ↦
      let number : c.match-filter_of.result ≡ number_of (status_of w.in-Err.refusal) = w.result-is
      ∙ w.report_refusal.ensures.number in
      let not_memory : w.in-Err.refusal ≢ Code Memory = λ e.
      enough (number ∙ ap (λ r. number_of (status_of r)) e) in
      let told = w.in-Err.ensures.first code fault is short first (λ e. not_memory (cc)) in
      let same : w.in-Err.refusal ≡ Filter fault = cc in
      number ∙ ap (λ r. number_of (status_of r)) same
]
