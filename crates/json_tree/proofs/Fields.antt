-- A field that was read is present, and a present field is read.
use Rattle.std.proofs.Common.{◌≡◌, ℕ, List, [], ◌∷◌, Bool, true, false, Option, Some, None, Result, Ok, Err}
use Rattle.std.proofs.Common.{refl, ap, ◌∙◌}
use Rattle.std.specs.Bool.{⊤}
use Rattle.serde_json.specs.Data.{Data}
use Rattle.serde_json.specs.Find.{get}
use Rattle.json_tree.specs.declared.faults.FieldFault.TheVariants.{WrongType}
use Rattle.json_tree.specs.Tree.{member}
use Rattle.json_tree.specs.Reading.{or_else, refuse_if, as_fault, typed, needed, allowed, required, optional}
use Rattle.json_tree.specs.Reading.{in_order, HasField, MayHaveField, Both}
use Rattle.json_tree.proofs.Loops.{bind_ok}

pub or_else_ok : {A E : Type 0} (e : E) (o : Option A) (x : A) → or_else e o ≡ Ok x → o ≡ Some x
or_else_ok e None x h = absurd cc
or_else_ok e (Some y) x h = cc

pub refuse_if_ok : {E : Type 0} (test : Bool) (e : E) (u : ⊤) → refuse_if test e ≡ Ok u → test ≡ false
refuse_if_ok true e u h = absurd cc
refuse_if_ok false e u h = refl

pub as_fault_ok : {A D E : Type 0} (f : D → E) (r : Result A D) (x : A) → as_fault f r ≡ Ok x → r ≡ Ok x
as_fault_ok f (Ok y) x h = cc
as_fault_ok f (Err e) x h = absurd cc

needed_found : {A : Type 0} (kind : Data → Option A) (o : Option Data) (x : A) → needed kind o ≡ Ok x
    → (found : Data) × (o ≡ Some found) × (kind found ≡ Some x)
needed_found kind None x h = absurd cc
needed_found kind (Some found) x h = (found, refl, or_else_ok WrongType (kind found) x h)

pub required_found : {A : Type 0} (kind : Data → Option A) (key : List ℕ) (tree : Data) (x : A)
    → required kind key tree ≡ Ok x → HasField kind key tree x
unfolding required
required_found kind key tree x h = needed_found kind (get key tree) x h

pub required_only : {A : Type 0} (kind : Data → Option A) (key : List ℕ) (tree : Data) (x : A)
    → HasField kind key tree x → required kind key tree ≡ Ok x
unfolding required
required_only kind key tree x h = rw (h.1, h.2) refl

allowed_none : {A : Type 0} (kind : Data → Option A) (o : Option Data) → allowed kind o ≡ Ok None → o ≡ None
allowed_none kind None h = refl
allowed_none kind (Some found) h =
    let there = bind_ok (typed kind found) _ _ h in
    let not_there : Ok (Some there.0) ≡ Ok None = there.2 in
    absurd cc

allowed_some : {A : Type 0} (kind : Data → Option A) (o : Option Data) (x : A) → allowed kind o ≡ Ok (Some x)
    → (found : Data) × (o ≡ Some found) × (kind found ≡ Some x)
allowed_some kind None x h = absurd cc
allowed_some kind (Some found) x h =
    let there = bind_ok (typed kind found) _ _ h in
    let same : there.0 ≡ x = cc in
    (found, refl, or_else_ok WrongType (kind found) there.0 there.1 ∙ ap Some same)

pub optional_found : {A : Type 0} (kind : Data → Option A) (key : List ℕ) (tree : Data) (x : Option A)
    → optional kind key tree ≡ Ok x → MayHaveField kind key tree x
unfolding optional
optional_found kind key tree None h = allowed_none kind (member key tree) h
optional_found kind key tree (Some x) h = allowed_some kind (member key tree) x h

pub optional_only : {A : Type 0} (kind : Data → Option A) (key : List ℕ) (tree : Data) (x : Option A)
    → MayHaveField kind key tree x → optional kind key tree ≡ Ok x
unfolding optional
optional_only kind key tree None h = rw h refl
optional_only kind key tree (Some x) h = rw (h.1, h.2) refl

-- a list that was read is read item by item
pub in_order_found : {A B E : Type 0} (f : A → Result B E) (R : A → B → Type 0)
    → ((x : A) (y : B) → f x ≡ Ok y → R x y) → (xs : List A) (ys : List B) → in_order f xs ≡ Ok ys
    → Both R xs ys
in_order_found f R one [] [] h = tt
in_order_found f R one [] (y ∷ ys) h = absurd cc
in_order_found f R one (x ∷ xs) [] h =
    let first = bind_ok (f x) _ _ h in
    let rest = bind_ok (in_order f xs) _ _ first.2 in
    absurd cc
in_order_found f R one (x ∷ xs) (y ∷ ys) h =
    let first = bind_ok (f x) _ _ h in
    let rest = bind_ok (in_order f xs) _ _ first.2 in
    let same_first : first.0 ≡ y = cc in
    let same_rest : rest.0 ≡ ys = cc in
    (one x y (first.1 ∙ ap Ok same_first), in_order_found f R one xs ys (rest.1 ∙ ap Ok same_rest))

pub in_order_only : {A B E : Type 0} (f : A → Result B E) (R : A → B → Type 0)
    → ((x : A) (y : B) → R x y → f x ≡ Ok y) → (xs : List A) (ys : List B) → Both R xs ys
    → in_order f xs ≡ Ok ys
in_order_only f R one [] [] h = refl
in_order_only f R one [] (y ∷ ys) h = absurd h
in_order_only f R one (x ∷ xs) [] h = absurd h
in_order_only f R one (x ∷ xs) (y ∷ ys) h = rw (one x y h.0, in_order_only f R one xs ys h.1) refl
