-- How a tree is read: the result, or the first fault in the order of reading. That order is this project's
-- own, written by each reader as a do-block.
use Rattle.std.specs.Prelude.{◌≡◌, ◌≢◌, ℕ, List, [], ◌∷◌, ◌++◌, Bool, true, false, ⊤, Option, Some, None}
use Rattle.std.specs.Prelude.{Result, Ok, Err}
use Rattle.serde_json.specs.Data.{Data}
use Rattle.serde_json.specs.Find.{get}
use Rattle.json_tree.specs.declared.faults.FieldFault.{FieldFault}
use Rattle.json_tree.specs.declared.faults.FieldFault.TheVariants.{Missing, WrongType}
use Rattle.json_tree.specs.declared.faults.TextFault.{TextFault}
use Rattle.json_tree.specs.declared.faults.TextFault.TheVariants.{NotJson}
use Rattle.json_tree.specs.Tree.{tree_of, member}

infixl 10 ◌>>=◌
abbrev pub ◌>>=◌ : {A B E : Type 0} → Result A E → (A → Result B E) → Result B E
(Ok x) >>= f = f x
(Err e) >>= f = Err e

infixl 10 ◌>>◌
abbrev pub ◌>>◌ : {A B E : Type 0} → Result A E → Result B E → Result B E
(Ok x) >> r = r
(Err e) >> r = Err e

-- no fault if the test is false
abbrev pub refuse_if : {E : Type 0} → Bool → E → Result ⊤ E
refuse_if true fault = Err fault
refuse_if false fault = Ok tt

abbrev pub or_else : {A E : Type 0} → E → Option A → Result A E
or_else fault None = Err fault
or_else fault (Some x) = Ok x

-- the reading of a value, if there is one
abbrev pub if_there : {A B E : Type 0} → (A → Result B E) → Option A → Result (Option B) E
if_there f None = Ok None
if_there f (Some x) = f x >>= λ y. Ok (Some y)

-- each item in order, up to the first fault
abbrev pub in_order : {A B E : Type 0} → (A → Result B E) → List A → Result (List B) E
in_order f [] = Ok []
in_order f (x ∷ xs) = f x >>= λ y. in_order f xs >>= λ ys. Ok (y ∷ ys)

-- each item in order, if what was read before it may matter
abbrev pub in_order_after : {A B E : Type 0} → (List B → A → Result B E) → List B → List A → Result (List B) E
in_order_after f done [] = Ok done
in_order_after f done (x ∷ xs) = f done x >>= λ y. in_order_after f (done ++ y ∷ []) xs

-- the result, with its fault as this reader names it
abbrev pub as_fault : {A D E : Type 0} → (D → E) → Result A D → Result A E
as_fault f (Ok x) = Ok x
as_fault f (Err e) = Err (f e)

-- the result, with the value that it represents
abbrev pub as_read : {X Y E : Type 0} → (X → Y) → Result X E → Result Y E
as_read view (Ok x) = Ok (view x)
as_read view (Err e) = Err e

-- A call returns this reading, or the fault `memory` if an allocation failed.
abbrev pub Gives : {X Y E : Type 0} → E → (X → Y) → Result X E → Result Y E → Type 0
Gives memory view (Ok x) reading = reading ≡ Ok (view x)
Gives memory view (Err e) reading = e ≢ memory → reading ≡ Err e

unfoldable pub document : List ℕ → Result Data TextFault
document bytes = or_else NotJson (tree_of bytes)

abbrev pub typed : {A : Type 0} → (Data → Option A) → Data → Result A FieldFault
typed kind tree = or_else WrongType (kind tree)

abbrev pub needed : {A : Type 0} → (Data → Option A) → Option Data → Result A FieldFault
needed kind None = Err Missing
needed kind (Some found) = typed kind found

abbrev pub allowed : {A : Type 0} → (Data → Option A) → Option Data → Result (Option A) FieldFault
allowed kind None = Ok None
allowed kind (Some found) = typed kind found >>= λ x. Ok (Some x)

-- a required field of this kind: null is of no kind
unfoldable pub required : {A : Type 0} → (Data → Option A) → List ℕ → Data → Result A FieldFault
required kind key tree = needed kind (get key tree)

-- an optional field, which may be null
unfoldable pub optional : {A : Type 0} → (Data → Option A) → List ℕ → Data → Result (Option A) FieldFault
optional kind key tree = allowed kind (member key tree)

-- the required field is present, and is this
abbrev pub HasField : {A : Type 0} → (Data → Option A) → List ℕ → Data → A → Type 0
HasField kind key tree x = (found : Data) × (get key tree ≡ Some found) × (kind found ≡ Some x)

-- the optional field is this, or it is absent
abbrev pub MayHaveField : {A : Type 0} → (Data → Option A) → List ℕ → Data → Option A → Type 0
MayHaveField kind key tree None = member key tree ≡ None
MayHaveField kind key tree (Some x) = (found : Data) × (member key tree ≡ Some found) × (kind found ≡ Some x)

-- item by item, and as many
abbrev pub Both : {A B : Type 0} → (A → B → Type 0) → List A → List B → Type 0
Both R [] [] = ⊤
Both R [] (y ∷ ys) = ⊥
Both R (x ∷ xs) [] = ⊥
Both R (x ∷ xs) (y ∷ ys) = R x y × Both R xs ys
