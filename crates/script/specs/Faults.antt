-- The faults of fields and of texts, as faults of scripts with their places: this project's own.
use Rattle.std.specs.Prelude.{ℕ, List, [], ◌∷◌, codes, Result}
use Rattle.json_tree.specs.declared.faults.FieldFault.{FieldFault}
use Rattle.json_tree.specs.declared.faults.FieldFault.TheVariants as field
use Rattle.json_tree.specs.declared.faults.TextFault.{TextFault}
use Rattle.json_tree.specs.declared.faults.TextFault.TheVariants as document
use Rattle.json_tree.specs.Reading.{as_fault}
use Rattle.json_place.specs.Parts.{Part, Member, Item}
use Rattle.json_place.specs.Places.{within}
use Rattle.json_place.specs.declared.fields.FieldFaultAt.{FieldFaultAt}
use Rattle.script.specs.declared.faults.ScriptFault.{ScriptFault}
use Rattle.script.specs.declared.faults.ScriptFault.TheVariants.{NotJson, Missing, WrongType, Memory}
use Rattle.script.specs.declared.placed.ScriptFaultAt.{ScriptFaultAt}

abbrev pub fault_of_field : FieldFault → ScriptFault
fault_of_field field.Missing = Missing
fault_of_field field.WrongType = WrongType
fault_of_field field.Memory = Memory

abbrev pub fault_of_text : TextFault → ScriptFault
fault_of_text document.NotJson = NotJson
fault_of_text document.Memory = Memory

-- of the tree that is read
abbrev pub fault_here : ScriptFault → ScriptFaultAt
fault_here fault = record { fault = fault; place = [] }

-- of its member with this key
abbrev pub fault_at : List ℕ → ScriptFault → ScriptFaultAt
fault_at key fault = record { fault = fault; place = Member key ∷ [] }

-- of its item at this index
abbrev pub fault_of_item : ℕ → ScriptFault → ScriptFaultAt
fault_of_item index fault = record { fault = fault; place = Item index ∷ [] }

-- of the value under a step of it
abbrev pub fault_within : Part → ScriptFaultAt → ScriptFaultAt
fault_within part found = record { fault = found.fault; place = within part found.place }

-- of a step, as a fault of the script in which the step has this index
abbrev pub fault_of_step : ℕ → ScriptFaultAt → ScriptFaultAt
fault_of_step index found = fault_within (Member (codes "steps")) (fault_within (Item index) found)

abbrev pub fault_of_field_at : FieldFaultAt → ScriptFaultAt
fault_of_field_at found = record { fault = fault_of_field found.fault; place = found.place }

-- the result for the member with this key
abbrev pub at : {A : Type 0} → List ℕ → Result A ScriptFault → Result A ScriptFaultAt
at key made = as_fault (fault_at key) made

-- the result for the value under the step
abbrev pub under : {A : Type 0} → Part → Result A ScriptFaultAt → Result A ScriptFaultAt
under part read = as_fault (fault_within part) read
