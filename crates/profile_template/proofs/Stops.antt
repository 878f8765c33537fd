-- The first fault of an item is reported with the place of the item.
use Rattle.std.proofs.Common.{◌≡◌, ◌≢◌, Ok, Err, Result, sym, ap, ◌∙◌}
use Rattle.json_place.specs.Parts.{Part}
use Rattle.oci_profile.specs.declared.faults.ProfileFault.TheVariants.{Memory}
use Rattle.profile_template.specs.declared.faults.TemplateFault.TheVariants.{Profile}
use Rattle.profile_template.specs.declared.placed.TemplateFaultAt.{TemplateFaultAt}
use Rattle.profile_template.specs.Faults.{fault_within, under}
use Rattle.profile_template.specs.Reading.{Reads}

pub at_fault : {X B : Type 0} (part : Part) (see : X → B) (read : Result X TemplateFaultAt)
    (reading : Result B TemplateFaultAt) (found : TemplateFaultAt)
    → Reads see read reading → under part read ≡ Err found → found.fault ≢ Profile Memory
    → under part reading ≡ Err found
at_fault part see (Ok x) reading found reads is not_memory = absurd cc
at_fault part see (Err inner) reading found reads is not_memory =
    let same : fault_within part inner ≡ found = cc in
    rw (reads (λ memory. not_memory (ap (λ f. f.fault) (sym same) ∙ memory))) (ap Err same)
