-- The faults of profiles, of fields and of texts, as faults of templates with their places, and the names of
-- faults as programs print them: this project's own.
use Rattle.std.specs.Prelude.{ℕ, List, [], ◌∷◌, codes, Result}
use Rattle.json_tree.specs.declared.faults.TextFault.{TextFault}
use Rattle.json_tree.specs.Reading.{as_fault}
use Rattle.json_place.specs.Parts.{Part, Member}
use Rattle.json_place.specs.Places.{within}
use Rattle.json_place.specs.declared.fields.FieldFaultAt.{FieldFaultAt}
use Rattle.oci_profile.specs.declared.faults.ProfileFault.{ProfileFault}
use Rattle.oci_profile.specs.declared.placed.ProfileFaultAt.{ProfileFaultAt}
use Rattle.oci_profile.specs.Faults as of_profile
use Rattle.profile_template.specs.declared.faults.TemplateFault.{TemplateFault}
use Rattle.profile_template.specs.declared.faults.TemplateFault.TheVariants.{Profile, Both, UnknownErrno}
use Rattle.profile_template.specs.declared.faults.TemplateFault.TheVariants.{BadKernel}
use Rattle.profile_template.specs.declared.placed.TemplateFaultAt.{TemplateFaultAt}

-- of the tree that is read
abbrev pub fault_here : TemplateFault → TemplateFaultAt
fault_here fault = record { fault = fault; place = [] }

-- of its member with this key
abbrev pub fault_at : List ℕ → TemplateFault → TemplateFaultAt
fault_at key fault = record { fault = fault; place = Member key ∷ [] }

-- of the value under a step of it
abbrev pub fault_within : Part → TemplateFaultAt → TemplateFaultAt
fault_within part found = record { fault = found.fault; place = within part found.place }

abbrev pub fault_of_profile : ProfileFaultAt → TemplateFaultAt
fault_of_profile found = record { fault = Profile found.fault; place = found.place }

abbrev pub fault_of_field : FieldFaultAt → TemplateFaultAt
fault_of_field found = record { fault = Profile (of_profile.fault_of_field found.fault); place = found.place }

abbrev pub fault_of_text : TextFault → TemplateFaultAt
fault_of_text fault = fault_here (Profile (of_profile.fault_of_text fault))

-- the result for the member with this key, with a profile's fault
abbrev pub at : {A : Type 0} → List ℕ → Result A ProfileFault → Result A TemplateFaultAt
at key made = as_fault (λ fault. fault_at key (Profile fault)) made

-- the result for the value under the step
abbrev pub under : {A : Type 0} → Part → Result A TemplateFaultAt → Result A TemplateFaultAt
under part read = as_fault (fault_within part) read

abbrev pub fault_text : TemplateFault → List ℕ
fault_text (Profile fault) = of_profile.fault_text fault
fault_text Both = codes "Both"
fault_text UnknownErrno = codes "UnknownErrno"
fault_text BadKernel = codes "BadKernel"
