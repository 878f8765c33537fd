-- Reading a text, given the reading of its tree.
use Rattle.std.proofs.Common.{◌≡◌, ℕ, Option, Some, None, unwrap_or, option_and_then, Result, Ok, Err, refl}
use Rattle.serde_json.specs.Data.{Data}
use Rattle.json_tree.specs.Reading.{as_fault}
use Rattle.json_tree.specs.declared.faults.FieldFault.{FieldFault}
use Rattle.json_tree.specs.declared.faults.FieldFault.TheVariants as field
use Rattle.json_tree.proofs.Fields.{as_fault_ok}
use Rattle.cri_msgs.specs.declared.faults.MessageFault.{MessageFault}
use Rattle.cri_msgs.specs.declared.faults.MessageFault.TheVariants.{NoMessage, Memory}
use Rattle.cri_msgs.specs.Reading.{from_tree, message_fault}
use Rattle.cri_msgs.specs.Requests.{number_in}

pub from_found : {A : Type 0} (f : Data → Result A FieldFault) (o : Option Data) (x : A)
    → from_tree f o ≡ Ok x → (tree : Data) × (o ≡ Some tree) × (f tree ≡ Ok x)
from_found f None x h = absurd cc
from_found f (Some tree) x h = (tree, refl, as_fault_ok _ (f tree) x h)

pub from_only : {A : Type 0} (f : Data → Result A FieldFault) (o : Option Data) (tree : Data) (x : A)
    → o ≡ Some tree → f tree ≡ Ok x → from_tree f o ≡ Ok x
from_only f o tree x is h = rw (is, h) refl

fault_is : {A : Type 0} (id : ℕ) (r : Result A FieldFault) (e : MessageFault)
    → as_fault (message_fault id) r ≡ Err e → (e ≡ Memory → ⊥) → e ≡ NoMessage id
fault_is id (Ok x) e h other = absurd cc
fault_is id (Err field.Missing) e h other = cc
fault_is id (Err field.WrongType) e h other = cc
fault_is id (Err field.Memory) e h other =
    let is : e ≡ Memory = cc in
    absurd (other is)

pub from_refused : {A : Type 0} (f : Data → Result A FieldFault) (o : Option Data) (e : MessageFault)
    → from_tree f o ≡ Err e → (e ≡ Memory → ⊥) → e ≡ NoMessage (unwrap_or (option_and_then number_in o) 0)
from_refused f None e h other = cc
from_refused f (Some tree) e h other = fault_is (unwrap_or (number_in tree) 0) (f tree) e h other
