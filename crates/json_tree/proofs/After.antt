-- A list read item by item, if what was read before an item may matter to it.
use Rattle.std.proofs.Common.{◌≡◌, ℕ, suc, ◌+◌, ◌<◌, ◌≤◌, List, [], ◌∷◌, ◌++◌, length, get_or, map, drop}
use Rattle.std.proofs.Common.{append_assoc, append-nil, add-one, Result, Ok, Err, refl, sym, ap, subst, ◌∙◌}
use Rattle.std.proofs.Math.Seq.{drop-cons}
use Rattle.std.proofs.lemmas.List.{drop_all}
use Rattle.json_tree.specs.Reading.{in_order_after, Both}
use Rattle.json_tree.proofs.Loops.{bind_ok}

map_rest : {V A : Type 0} (h : V → A) (vs : List V) (i : ℕ) (v : V) → i < length vs → v ≡ get_or vs i v
    → map h (drop i vs) ≡ h v ∷ map h (drop (i + 1) vs)
map_rest h vs i v lt is = rw (drop-cons vs i v, add-one) (ap (λ x. h x ∷ map h (drop (suc i) vs)) (sym is))

-- one more item is read
pub after_more : {V A B E : Type 0} (f : List B → A → Result B E) (h : V → A) (vs : List V) (i : ℕ) (v : V)
    (ys : List B) (y : B) (all : Result (List B) E) → i < length vs → v ≡ get_or vs i v
    → in_order_after f ys (map h (drop i vs)) ≡ all → f ys (h v) ≡ Ok y
    → in_order_after f (ys ++ y ∷ []) (map h (drop (i + 1) vs)) ≡ all
after_more f h vs i v ys y all lt is so_far here =
    let step : in_order_after f ys (map h (drop i vs))
    ≡ in_order_after f (ys ++ y ∷ []) (map h (drop (i + 1) vs)) =
    rw (map_rest h vs i v lt is, here) refl in
    sym step ∙ so_far

-- the first fault is the whole list's
pub after_stops : {V A B E : Type 0} (f : List B → A → Result B E) (h : V → A) (vs : List V) (i : ℕ) (v : V)
    (ys : List B) (e : E) (all : Result (List B) E) → i < length vs → v ≡ get_or vs i v
    → in_order_after f ys (map h (drop i vs)) ≡ all → f ys (h v) ≡ Err e → all ≡ Err e
after_stops f h vs i v ys e all lt is so_far here =
    let step : in_order_after f ys (map h (drop i vs)) ≡ Err e = rw (map_rest h vs i v lt is, here) refl in
    sym so_far ∙ step

-- at the end all are read
pub after_ends : {V A B E : Type 0} (f : List B → A → Result B E) (h : V → A) (vs : List V) (i : ℕ)
    (ys : List B) (all : Result (List B) E) → length vs ≤ i
    → in_order_after f ys (map h (drop i vs)) ≡ all → all ≡ Ok ys
after_ends f h vs i ys all past so_far = sym so_far
    ∙ ap (λ rest. in_order_after f ys (map h rest)) (drop_all i vs past)

-- The list that was read keeps what each item keeps, and is read item by item.
pub after_found : {A B E : Type 0} (f : List B → A → Result B E) (K : List B → Type 0) (R : A → B → Type 0)
    → ((done : List B) (x : A) (y : B) → K done → f done x ≡ Ok y → K (done ++ y ∷ []) × R x y)
    → (done : List B) (xs : List A) (all : List B) → K done → in_order_after f done xs ≡ Ok all → K all
    × ((ys : List B) × (all ≡ done ++ ys) × Both R xs ys)
after_found {B = B} f K R one done [] all kept h =
    let same : done ≡ all = cc in
    (subst K same kept, ([], sym same ∙ sym (append-nil done), tt))
after_found {B = B} f K R one done (x ∷ xs) all kept h =
    let first = bind_ok (f done x) _ _ h in
    let here = one done x first.0 kept first.1 in
    let rest = after_found f K R one (done ++ first.0 ∷ []) xs all here.0 first.2 in
    (rest.0, (first.0 ∷ rest.1.0, rest.1.1 ∙ append_assoc done (first.0 ∷ []) rest.1.0, (here.1, rest.1.2)))

-- A list that is right item by item, and is kept as a whole, is read.
pub after_only : {A B E : Type 0} (f : List B → A → Result B E) (K : List B → Type 0) (R : A → B → Type 0)
    → ((done : List B) (x : A) (y : B) (rest : List B) → K (done ++ y ∷ rest) → R x y → f done x ≡ Ok y)
    → (done : List B) (xs : List A) (ys : List B) → K (done ++ ys) → Both R xs ys
    → in_order_after f done xs ≡ Ok (done ++ ys)
after_only f K R one done [] [] kept h = ap Ok (sym (append-nil done))
after_only f K R one done [] (y ∷ ys) kept h = absurd h
after_only f K R one done (x ∷ xs) [] kept h = absurd h
after_only f K R one done (x ∷ xs) (y ∷ ys) kept h =
    let assoc : (done ++ y ∷ []) ++ ys ≡ done ++ y ∷ ys = append_assoc done (y ∷ []) ys in
    rw (one done x y ys kept h.0) (after_only f K R one (done ++ y ∷ []) xs ys (subst K (sym assoc) kept) h.1
    ∙ ap Ok assoc)
