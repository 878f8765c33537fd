use Rattle.std.proofs.Common.{◌≢◌, Err, ap, refl}
use Rattle.bpf_code.specs.declared.fault.CodeFault.TheVariants as text
use Rattle.bpf_verify.specs.declared.refusal.Refusal.TheVariants.{Code}
use Rattle.motchidu_c.specs.declared.status.Status.TheVariants.{Memory}
use Rattle.motchidu_c.specs.Compared.{IsOneRefused}
use Rattle.motchidu_c.proofs.comparing.found_of.Goals as goal

pub returns-in-Err-checked-clause-second_fault : goal.returns-in-Err-checked-clause-second_fault
returns-in-Err-checked-clause-second_fault c first fault spells enough =
    let not_memory : c.in-Err-checked.status ≢ Memory = λ e. enough (ap Err e) in
    let told = c.in-Err-checked.ensures.first fault spells (λ e. not_memory (cc)) in
    cc

pub returns-in-Ok-compare-clause-found : goal.returns-in-Ok-compare-clause-found
returns-in-Ok-compare-clause-found c = record {
  one = record { code = c.in-Ok.filter; text = c.in-Ok.ensures.text; sound = c.in-Ok.ensures.sound };
  other = record {
    code = c.in-Ok-checked.filter;
    text = c.in-Ok-checked.ensures.text;
    sound = c.in-Ok-checked.ensures.sound;
  };
  says = c.in-Ok-compare.ensures;
}

-- running out of memory is no fault of either
pub returns-clause-refused : goal.returns-clause-refused
returns-clause-refused c =
    IsOneRefused.is_first (record {
      refusal = Code text.Memory;
      refused = λ other. absurd (other refl);
      told = refl;
    })
