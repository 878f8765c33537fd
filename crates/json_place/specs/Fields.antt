-- Fields of an object as `json_tree` reads them, and the place of a field's fault: this project's own.
use Rattle.std.specs.Prelude.{◌≡◌, ◌≢◌, ℕ, List, [], ◌∷◌, is_some, not, position, option_and_then, Option}
use Rattle.std.specs.Prelude.{Some, None, Result, Ok, Err}
use Rattle.serde_json.specs.Data.{Data}
use Rattle.serde_json.specs.Find.{get}
use Rattle.json_tree.specs.declared.faults.FieldFault.{FieldFault}
use Rattle.json_tree.specs.Tree.{list}
use Rattle.json_tree.specs.Reading as plain
use Rattle.json_tree.specs.Reading.{as_fault}
use Rattle.json_place.specs.Parts.{Part, Member, Item}
use Rattle.json_place.specs.declared.fields.FieldFaultAt.{FieldFaultAt}

abbrev pub member_fault : List ℕ → FieldFault → FieldFaultAt
member_fault key fault = record { fault = fault; place = Member key ∷ [] }

-- a required field of this kind
unfoldable pub required : {A : Type 0} → (Data → Option A) → List ℕ → Data → Result A FieldFaultAt
required kind key tree = as_fault (member_fault key) (plain.required kind key tree)

-- an optional field, which may be null
unfoldable pub optional : {A : Type 0} → (Data → Option A) → List ℕ → Data → Result (Option A) FieldFaultAt
optional kind key tree = as_fault (member_fault key) (plain.optional kind key tree)

-- the place of an item, if there is one, and else of its list
abbrev pub item_place : Option ℕ → List Part
item_place None = []
item_place (Some index) = Item index ∷ []

-- the first item of a list that is not of this kind; nothing if this is no list
abbrev pub odd_item : {A : Type 0} → (Data → Option A) → Option Data → List Part
odd_item kind None = []
odd_item kind (Some tree) = item_place (option_and_then (position (λ item. not (is_some (kind item))))
    (list tree))

abbrev pub list_fault : {A : Type 0} → (Data → Option A) → List ℕ → Data → FieldFault → FieldFaultAt
list_fault kind key tree fault = record { fault = fault; place = Member key ∷ odd_item kind (get key tree) }

-- a required list, as `list_kind` reads it, with items of one kind
unfoldable pub required_each : {A B : Type 0} → (Data → Option A) → (Data → Option B) → List ℕ → Data
    → Result B FieldFaultAt
required_each kind list_kind key tree =
    as_fault (list_fault kind key tree) (plain.required list_kind key tree)

-- an optional list, which may be null
unfoldable pub optional_each : {A B : Type 0} → (Data → Option A) → (Data → Option B) → List ℕ → Data
    → Result (Option B) FieldFaultAt
optional_each kind list_kind key tree =
    as_fault (list_fault kind key tree) (plain.optional list_kind key tree)

-- A call returns this reading, or `memory` if an allocation failed anywhere.
abbrev pub GivesAt : {X Y E F : Type 0} → (E → F) → F → (X → Y) → Result X E → Result Y E → Type 0
GivesAt fault_of memory view (Ok x) reading = reading ≡ Ok (view x)
GivesAt fault_of memory view (Err e) reading = fault_of e ≢ memory → reading ≡ Err e
