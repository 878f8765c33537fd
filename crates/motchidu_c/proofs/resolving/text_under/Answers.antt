use Rattle.std.proofs.Common.{◌≡◌, ◌≢◌, ◌∙◌, ap, refl}
use Rattle.oci_profile.specs.declared.faults.ProfileFault.TheVariants.{Memory}
use Rattle.profile_template.specs.declared.faults.TemplateFault.TheVariants.{Profile}
use Rattle.profile_text.specs.declared.faults.WriteFault.{WriteFault}
use Rattle.profile_text.specs.declared.faults.WriteFault.TheVariants as written
use Rattle.motchidu_c.specs.declared.status.Status.TheVariants as status
use Rattle.motchidu_c.specs.Status.{status_of_template, status_of_write}
use Rattle.motchidu_c.specs.Templates.{IsUnresolved}
use Rattle.motchidu_c.proofs.resolving.text_under.Goals as goal

pub returns-in-Err-clause-refused : goal.returns-in-Err-clause-refused
returns-in-Err-clause-refused c enough =
    let not_memory : c.in-Err.found.fault ≢ Profile Memory = λ e.
    enough (c.status_of_template.ensures ∙ ap status_of_template e) in
    IsUnresolved.is_fault c.in-Err.found (c.in-Err.ensures not_memory) c.status_of_template.ensures

long : (fault : WriteFault) → status_of_write fault ≢ status.Memory → status_of_write fault ≡ status.TooLarge
long written.NoName enough = refl
long written.TooLarge enough = refl
long written.Memory enough = absurd (enough refl)

pub returns-in-Err-write-clause-refused : goal.returns-in-Err-write-clause-refused
returns-in-Err-write-clause-refused c enough = IsUnresolved.is_long c.in-Ok.template c.in-Ok.ensures
    (c.status_of_write.ensures ∙ long _ (λ e. enough (c.status_of_write.ensures ∙ e)))
