-- A field that was read is present, and a present field is read, wherever its faults would be.
use Rattle.std.proofs.Common.{◌≡◌, ℕ, List, Option, Result, Ok, refl}
use Rattle.serde_json.specs.Data.{Data}
use Rattle.json_tree.specs.Reading.{as_fault, HasField, MayHaveField}
use Rattle.json_tree.specs.Reading as plain
use Rattle.json_tree.proofs.Fields as plain_field
use Rattle.json_tree.proofs.Fields.{as_fault_ok}
use Rattle.json_place.specs.Fields.{member_fault, list_fault, required, optional, required_each}
use Rattle.json_place.specs.Fields.{optional_each}

as_fault_only : {A D E : Type 0} (f : D → E) (r : Result A D) (x : A) → r ≡ Ok x → as_fault f r ≡ Ok x
as_fault_only f r x h = rw h refl

pub required_found : {A : Type 0} (kind : Data → Option A) (key : List ℕ) (tree : Data) (x : A)
    → required kind key tree ≡ Ok x → HasField kind key tree x
unfolding required
required_found kind key tree x h = plain_field.required_found kind key tree x
    (as_fault_ok (member_fault key) (plain.required kind key tree) x h)

pub required_only : {A : Type 0} (kind : Data → Option A) (key : List ℕ) (tree : Data) (x : A)
    → HasField kind key tree x → required kind key tree ≡ Ok x
unfolding required
required_only kind key tree x h = as_fault_only (member_fault key) (plain.required kind key tree) x
    (plain_field.required_only kind key tree x h)

pub optional_found : {A : Type 0} (kind : Data → Option A) (key : List ℕ) (tree : Data) (x : Option A)
    → optional kind key tree ≡ Ok x → MayHaveField kind key tree x
unfolding optional
optional_found kind key tree x h = plain_field.optional_found kind key tree x
    (as_fault_ok (member_fault key) (plain.optional kind key tree) x h)

pub optional_only : {A : Type 0} (kind : Data → Option A) (key : List ℕ) (tree : Data) (x : Option A)
    → MayHaveField kind key tree x → optional kind key tree ≡ Ok x
unfolding optional
optional_only kind key tree x h = as_fault_only (member_fault key) (plain.optional kind key tree) x
    (plain_field.optional_only kind key tree x h)

pub required_each_found : {A B : Type 0} (kind : Data → Option A) (list_kind : Data → Option B) (key : List ℕ)
    (tree : Data) (x : B)
    → required_each kind list_kind key tree ≡ Ok x → HasField list_kind key tree x
unfolding required_each
required_each_found kind list_kind key tree x h =
    plain_field.required_found list_kind key tree x
    (as_fault_ok (list_fault kind key tree) (plain.required list_kind key tree) x h)

pub required_each_only : {A B : Type 0} (kind : Data → Option A) (list_kind : Data → Option B) (key : List ℕ)
    (tree : Data) (x : B)
    → HasField list_kind key tree x → required_each kind list_kind key tree ≡ Ok x
unfolding required_each
required_each_only kind list_kind key tree x h =
    as_fault_only (list_fault kind key tree) (plain.required list_kind key tree) x
    (plain_field.required_only list_kind key tree x h)

pub optional_each_found : {A B : Type 0} (kind : Data → Option A) (list_kind : Data → Option B) (key : List ℕ)
    (tree : Data) (x : Option B)
    → optional_each kind list_kind key tree ≡ Ok x → MayHaveField list_kind key tree x
unfolding optional_each
optional_each_found kind list_kind key tree x h =
    plain_field.optional_found list_kind key tree x
    (as_fault_ok (list_fault kind key tree) (plain.optional list_kind key tree) x h)

pub optional_each_only : {A B : Type 0} (kind : Data → Option A) (list_kind : Data → Option B) (key : List ℕ)
    (tree : Data) (x : Option B)
    → MayHaveField list_kind key tree x → optional_each kind list_kind key tree ≡ Ok x
unfolding optional_each
optional_each_only kind list_kind key tree x h =
    as_fault_only (list_fault kind key tree) (plain.optional list_kind key tree) x
    (plain_field.optional_only list_kind key tree x h)
