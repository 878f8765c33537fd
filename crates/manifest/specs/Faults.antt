-- The faults of fields and of texts, as faults of manifests with their places, and the names of faults as
-- programs print them: this project's own.
use Rattle.std.specs.Prelude.{ℕ, List, [], ◌∷◌, codes, Result}
use Rattle.json_tree.specs.declared.faults.FieldFault.{FieldFault}
use Rattle.json_tree.specs.declared.faults.FieldFault.TheVariants as field
use Rattle.json_tree.specs.declared.faults.TextFault.{TextFault}
use Rattle.json_tree.specs.declared.faults.TextFault.TheVariants as document
use Rattle.json_tree.specs.Reading.{as_fault}
use Rattle.json_place.specs.Parts.{Part, Member}
use Rattle.json_place.specs.Places.{within}
use Rattle.json_place.specs.declared.fields.FieldFaultAt.{FieldFaultAt}
use Rattle.manifest.specs.declared.faults.PodFault.{PodFault}
use Rattle.manifest.specs.declared.placed.PodFaultAt.{PodFaultAt}
use Rattle.manifest.specs.declared.faults.PodFault.TheVariants.{NotJson, Missing, WrongType, BadName}
use Rattle.manifest.specs.declared.faults.PodFault.TheVariants.{RepeatedName, BadProfile, TooMany, Memory}

abbrev pub fault_of_field : FieldFault → PodFault
fault_of_field field.Missing = Missing
fault_of_field field.WrongType = WrongType
fault_of_field field.Memory = Memory

abbrev pub fault_of_text : TextFault → PodFault
fault_of_text document.NotJson = NotJson
fault_of_text document.Memory = Memory

-- of the tree that is read
abbrev pub fault_here : PodFault → PodFaultAt
fault_here fault = record { fault = fault; place = [] }

-- of its member with this key
abbrev pub fault_at : List ℕ → PodFault → PodFaultAt
fault_at key fault = record { fault = fault; place = Member key ∷ [] }

-- of the value under a step of it
abbrev pub fault_within : Part → PodFaultAt → PodFaultAt
fault_within part found = record { fault = found.fault; place = within part found.place }

abbrev pub fault_of_field_at : FieldFaultAt → PodFaultAt
fault_of_field_at found = record { fault = fault_of_field found.fault; place = found.place }

-- the result for the member with this key
abbrev pub at : {A : Type 0} → List ℕ → Result A PodFault → Result A PodFaultAt
at key made = as_fault (fault_at key) made

-- the result for the value under the step
abbrev pub under : {A : Type 0} → Part → Result A PodFaultAt → Result A PodFaultAt
under part read = as_fault (fault_within part) read

abbrev pub fault_text : PodFault → List ℕ
fault_text NotJson = codes "NotJson"
fault_text Missing = codes "Missing"
fault_text WrongType = codes "WrongType"
fault_text BadName = codes "BadName"
fault_text RepeatedName = codes "RepeatedName"
fault_text BadProfile = codes "BadProfile"
fault_text TooMany = codes "TooMany"
fault_text Memory = codes "Memory"
