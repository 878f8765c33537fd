-- The faults of fields and of texts, as faults of profiles with their places, and the names of faults as
-- programs print them: this project's own.
use Rattle.std.specs.Prelude.{ℕ, List, [], ◌∷◌, codes, Result}
use Rattle.json_tree.specs.declared.faults.FieldFault.{FieldFault}
use Rattle.json_tree.specs.declared.faults.FieldFault.TheVariants as field
use Rattle.json_tree.specs.declared.faults.TextFault.{TextFault}
use Rattle.json_tree.specs.declared.faults.TextFault.TheVariants as document
use Rattle.json_tree.specs.Reading.{as_fault}
use Rattle.json_place.specs.Parts.{Part, Member}
use Rattle.json_place.specs.Places.{within}
use Rattle.json_place.specs.declared.fields.FieldFaultAt.{FieldFaultAt}
use Rattle.oci_profile.specs.declared.faults.ProfileFault.{ProfileFault}
use Rattle.oci_profile.specs.declared.placed.ProfileFaultAt.{ProfileFaultAt}
use Rattle.oci_profile.specs.declared.faults.ProfileFault.TheVariants.{TooLarge, NotJson, NotObject, Missing}
use Rattle.oci_profile.specs.declared.faults.ProfileFault.TheVariants.{WrongType, Notify, UnknownAction}
use Rattle.oci_profile.specs.declared.faults.ProfileFault.TheVariants.{ErrnoNotAllowed, ErrnoTooLarge}
use Rattle.oci_profile.specs.declared.faults.ProfileFault.TheVariants.{EmptyNames, BadIndex, RepeatedIndex}
use Rattle.oci_profile.specs.declared.faults.ProfileFault.TheVariants.{UnknownOp, UnknownCall, Memory}

abbrev pub fault_of_field : FieldFault → ProfileFault
fault_of_field field.Missing = Missing
fault_of_field field.WrongType = WrongType
fault_of_field field.Memory = Memory

abbrev pub fault_of_text : TextFault → ProfileFault
fault_of_text document.NotJson = NotJson
fault_of_text document.Memory = Memory

-- of the tree that is read
abbrev pub fault_here : ProfileFault → ProfileFaultAt
fault_here fault = record { fault = fault; place = [] }

-- of its member with this key
abbrev pub fault_at : List ℕ → ProfileFault → ProfileFaultAt
fault_at key fault = record { fault = fault; place = Member key ∷ [] }

-- of the value under a step of it
abbrev pub fault_within : Part → ProfileFaultAt → ProfileFaultAt
fault_within part found = record { fault = found.fault; place = within part found.place }

abbrev pub fault_of_field_at : FieldFaultAt → ProfileFaultAt
fault_of_field_at found = record { fault = fault_of_field found.fault; place = found.place }

-- the result for the member with this key
abbrev pub at : {A : Type 0} → List ℕ → Result A ProfileFault → Result A ProfileFaultAt
at key made = as_fault (fault_at key) made

-- the result for the value under the step
abbrev pub under : {A : Type 0} → Part → Result A ProfileFaultAt → Result A ProfileFaultAt
under part read = as_fault (fault_within part) read

abbrev pub fault_text : ProfileFault → List ℕ
fault_text TooLarge = codes "TooLarge"
fault_text NotJson = codes "NotJson"
fault_text NotObject = codes "NotObject"
fault_text Missing = codes "Missing"
fault_text WrongType = codes "WrongType"
fault_text Notify = codes "Notify"
fault_text UnknownAction = codes "UnknownAction"
fault_text ErrnoNotAllowed = codes "ErrnoNotAllowed"
fault_text ErrnoTooLarge = codes "ErrnoTooLarge"
fault_text EmptyNames = codes "EmptyNames"
fault_text BadIndex = codes "BadIndex"
fault_text RepeatedIndex = codes "RepeatedIndex"
fault_text UnknownOp = codes "UnknownOp"
fault_text UnknownCall = codes "UnknownCall"
fault_text Memory = codes "Memory"
