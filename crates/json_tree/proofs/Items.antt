-- The items of a list, one after another.
use Rattle.std.proofs.Common.{◌≡◌, ℕ, ◌+◌, ◌<◌, List, [], ◌∷◌, ◌++◌, length, get_or, map, take, Option, Some}
use Rattle.std.proofs.Common.{None, is_some, true, false, option_map, option_and_then, refl, ap}
use Rattle.serde_json.specs.Data.{Data}
use Rattle.serde_json.specs.View.{view, items_view}
use Rattle.serde_json.specs.declared.value.Value.{Value}
use Rattle.json_tree.specs.Tree.{items_list, each}
use Rattle.json_tree.proofs.Loops.{map_more, map_parts}

-- The list of the items is the list of the values that they represent.
pub items_list_view : (items : List Value) → items_list (items_view items) ≡ map view items
items_list_view [] = refl
items_list_view (v ∷ vs) = ap (λ ds. view v ∷ ds) (items_list_view vs)

-- a reading that succeeded had a first value
pub and_then_some : {A B : Type 0} (f : A → Option B) (o : Option A) (y : B) → option_and_then f o ≡ Some y
    → (x : A) × (o ≡ Some x) × (f x ≡ Some y)
and_then_some f None y h = absurd cc
and_then_some f (Some x) y h = (x, refl, h)

pub map_some : {A B : Type 0} (f : A → B) (o : Option A) (y : B) → option_map f o ≡ Some y → (x : A)
    × (o ≡ Some x) × (f x ≡ y)
map_some f None y h = absurd cc
map_some f (Some x) y h = (x, refl, cc)

none_after : {A : Type 0} (o : Option A) → option_and_then (λ x. option_map (λ (xs : List A). x ∷ xs) None) o
    ≡ None
none_after None = refl
none_after (Some x) = refl

each_push : {A : Type 0} (kind : Data → Option A) (front : List Data) (d : Data) (xs : List A) (x : A)
    → each kind front ≡ Some xs → kind d ≡ Some x → each kind (front ++ d ∷ []) ≡ Some (xs ++ x ∷ [])
each_push kind [] d xs x so_far here =
    let none : [] ≡ xs = cc in
    rw here (ap (λ zs. Some (zs ++ x ∷ [])) none)
each_push kind (e ∷ front) d xs x so_far here =
    let first = and_then_some _ (kind e) _ so_far in
    let rest = map_some _ (each kind front) _ first.2 in
    rw (first.1, each_push kind front d rest.0 x rest.1 here) (ap (λ zs. Some (zs ++ x ∷ [])) rest.2)

each_stop : {A : Type 0} (kind : Data → Option A) (front : List Data) (d : Data) (rest : List Data)
    → kind d ≡ None → each kind (front ++ d ∷ rest) ≡ None
each_stop kind [] d rest here = rw here refl
each_stop kind (e ∷ front) d rest here = simp (each_stop kind front d rest here) (none_after (kind e))

-- one more item is of the kind
pub each_more : {V A : Type 0} (kind : Data → Option A) (h : V → Data) (vs : List V) (i : ℕ) (v : V)
    (xs : List A) (x : A) → i < length vs → v ≡ get_or vs i v
    → each kind (map h (take i vs)) ≡ Some xs → kind (h v) ≡ Some x
    → each kind (map h (take (i + 1) vs)) ≡ Some (xs ++ x ∷ [])
each_more kind h vs i v xs x lt is so_far here =
    rw (map_more h vs i v lt is) (each_push kind (map h (take i vs)) (h v) xs x so_far here)

-- one item is not of the kind, so not each is
pub each_stops : {V A : Type 0} (kind : Data → Option A) (h : V → Data) (vs : List V) (i : ℕ) (v : V)
    → i < length vs → v ≡ get_or vs i v → kind (h v) ≡ None → each kind (map h vs) ≡ None
each_stops kind h vs i v lt is here = rw (map_parts h vs i v lt is)
    (each_stop kind (map h (take i vs)) (h v) _ here)

some_of : {A : Type 0} (o : Option A) → is_some o ≡ true → (x : A) × (o ≡ Some x)
some_of None h = absurd cc
some_of (Some x) h = (x, refl)

-- one more item, if its value does not matter
pub each_goes_on : {A : Type 0} (kind : Data → Option A) (vs : List Value) (i : ℕ) (v : Value) → i < length vs
    → v ≡ get_or vs i v
    → is_some (each kind (map view (take i vs))) ≡ true → is_some (kind (view v)) ≡ true
    → is_some (each kind (map view (take (i + 1) vs))) ≡ true
each_goes_on kind vs i v lt is so_far here =
    let xs = some_of (each kind (map view (take i vs))) so_far in
    let x = some_of (kind (view v)) here in
    ap is_some (each_more kind view vs i v xs.0 x.0 lt is xs.1 x.1)

pub each_fails : {A : Type 0} (kind : Data → Option A) (vs : List Value) (i : ℕ) (v : Value) → i < length vs
    → v ≡ get_or vs i v → kind (view v) ≡ None → is_some (each kind (map view vs)) ≡ false
each_fails kind vs i v lt is here = ap is_some (each_stops kind view vs i v lt is here)
