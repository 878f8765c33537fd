-- Loops over lists: one that reads item after item, and stops at the first fault, and one that compares.
use Rattle.std.proofs.Common.{◌≡◌, ℕ, suc, ◌+◌, ◌<◌, ◌≤◌, List, [], ◌∷◌, ◌++◌, length, get_or, map, take}
use Rattle.std.proofs.Common.{drop, append_assoc, Result, Ok, Err, refl, sym, ap, ◌∙◌}
use Rattle.std.proofs.lemmas.List.{get_or_default, map-append, take_all, take_more, take-append-drop}
use Rattle.json_tree.specs.Reading.{◌>>=◌, ◌>>◌, in_order}

parts : {A : Type 0} (xs : List A) (i : ℕ) (d : A) → i < length xs
    → xs ≡ take i xs ++ get_or xs i d ∷ drop (i + 1) xs
parts xs i d lt =
    sym (take-append-drop (i + 1) xs) ∙ ap (λ front. front ++ drop (i + 1) xs) (take_more xs i d lt)
    ∙ append_assoc (take i xs) (get_or xs i d ∷ []) (drop (i + 1) xs)

pub map_more : {V A : Type 0} (h : V → A) (vs : List V) (i : ℕ) (v : V) → i < length vs → v ≡ get_or vs i v
    → map h (take (i + 1) vs) ≡ map h (take i vs) ++ h v ∷ []
map_more h vs i v lt is = rw (take_more vs i v lt, ← is, map-append) refl

pub map_parts : {V A : Type 0} (h : V → A) (vs : List V) (i : ℕ) (v : V) → i < length vs → v ≡ get_or vs i v
    → map h vs ≡ map h (take i vs) ++ h v ∷ map h (drop (i + 1) vs)
map_parts h vs i v lt is =
    ap (map h) (parts vs i v lt) ∙ map-append h (take i vs) (get_or vs i v ∷ drop (i + 1) vs)
    ∙ ap (λ x. map h (take i vs) ++ h x ∷ map h (drop (i + 1) vs)) (sym is)

-- a reading that succeeded had a first value
pub bind_ok : {A B E : Type 0} (r : Result A E) (f : A → Result B E) (y : B) → (r >>= f) ≡ Ok y → (x : A)
    × (r ≡ Ok x) × (f x ≡ Ok y)
bind_ok (Ok x) f y h = (x, refl, h)
bind_ok (Err e) f y h = absurd cc

pub then_ok : {A B E : Type 0} (r : Result A E) (s : Result B E) (y : B) → (r >> s) ≡ Ok y → (x : A)
    × (r ≡ Ok x) × (s ≡ Ok y)
then_ok (Ok x) s y h = (x, refl, h)
then_ok (Err e) s y h = absurd cc

in_order_push : {A B E : Type 0} (f : A → Result B E) (front : List A) (x : A) (ys : List B) (y : B)
    → in_order f front ≡ Ok ys → f x ≡ Ok y → in_order f (front ++ x ∷ []) ≡ Ok (ys ++ y ∷ [])
in_order_push f [] x ys y so_far here =
    let none : [] ≡ ys = cc in
    rw here (ap (λ zs. Ok (zs ++ y ∷ [])) none)
in_order_push f (z ∷ front) x ys y so_far here =
    let first = bind_ok (f z) _ _ so_far in
    let rest = bind_ok (in_order f front) _ _ first.2 in
    let whole : first.0 ∷ rest.0 ≡ ys = cc in
    rw (first.1, in_order_push f front x rest.0 y rest.1 here) (ap (λ zs. Ok (zs ++ y ∷ [])) whole)

in_order_stop : {A B E : Type 0} (f : A → Result B E) (front : List A) (x : A) (rest : List A) (ys : List B)
    (e : E) → in_order f front ≡ Ok ys → f x ≡ Err e → in_order f (front ++ x ∷ rest) ≡ Err e
in_order_stop f [] x rest ys e so_far here = rw here refl
in_order_stop f (z ∷ front) x rest ys e so_far here =
    let first = bind_ok (f z) _ _ so_far in
    let before = bind_ok (in_order f front) _ _ first.2 in
    rw (first.1, in_order_stop f front x rest before.0 e before.1 here) refl

-- one more item is read
pub in_order_more : {V A B E : Type 0} (f : A → Result B E) (h : V → A) (vs : List V) (i : ℕ) (v : V)
    (ys : List B) (y : B) → i < length vs → v ≡ get_or vs i v
    → in_order f (map h (take i vs)) ≡ Ok ys → f (h v) ≡ Ok y
    → in_order f (map h (take (i + 1) vs)) ≡ Ok (ys ++ y ∷ [])
in_order_more f h vs i v ys y lt is so_far here =
    rw (map_more h vs i v lt is) (in_order_push f (map h (take i vs)) (h v) ys y so_far here)

-- the first fault is the whole list's
pub in_order_stops : {V A B E : Type 0} (f : A → Result B E) (h : V → A) (vs : List V) (i : ℕ) (v : V)
    (ys : List B) (e : E) → i < length vs → v ≡ get_or vs i v
    → in_order f (map h (take i vs)) ≡ Ok ys → f (h v) ≡ Err e → in_order f (map h vs) ≡ Err e
in_order_stops f h vs i v ys e lt is so_far here =
    rw (map_parts h vs i v lt is) (in_order_stop f (map h (take i vs)) (h v) _ ys e so_far here)

-- the next item, if the items are numbers, which represent themselves
pub in_order_next : {A B E : Type 0} (f : A → Result B E) (xs : List A) (i : ℕ) (d : A) (ys : List B) (y : B)
    → i < length xs
    → in_order f (take i xs) ≡ Ok ys → f (get_or xs i d) ≡ Ok y
    → in_order f (take (i + 1) xs) ≡ Ok (ys ++ y ∷ [])
in_order_next f xs i d ys y lt so_far here =
    rw (take_more xs i d lt) (in_order_push f (take i xs) (get_or xs i d) ys y so_far here)

pub in_order_ends : {A B E : Type 0} (f : A → Result B E) (xs : List A) (i : ℕ) (d : A) (ys : List B) (e : E)
    → i < length xs
    → in_order f (take i xs) ≡ Ok ys → f (get_or xs i d) ≡ Err e → in_order f xs ≡ Err e
in_order_ends f xs i d ys e lt so_far here =
    ap (in_order f) (parts xs i d lt) ∙ in_order_stop f (take i xs) (get_or xs i d)
    (drop (i + 1) xs) ys e so_far here

-- as many are read as there are
pub length_in_order : {A B E : Type 0} (f : A → Result B E) (xs : List A) (ys : List B)
    → in_order f xs ≡ Ok ys → length ys ≡ length xs
length_in_order f [] ys h =
    let none : [] ≡ ys = cc in
    ap length (sym none)
length_in_order f (x ∷ xs) ys h =
    let first = bind_ok (f x) _ _ h in
    let rest = bind_ok (in_order f xs) _ _ first.2 in
    let whole : first.0 ∷ rest.0 ≡ ys = cc in
    ap length (sym whole) ∙ ap suc (length_in_order f xs rest.0 rest.1)

-- one more item is the same
pub same_more : {A : Type 0} (xs ys : List A) (i : ℕ) (d e : A) → i < length xs → i < length ys
    → take i xs ≡ take i ys → get_or xs i d ≡ get_or ys i e → take (i + 1) xs ≡ take (i + 1) ys
same_more xs ys i d e lt below before here = take_more xs i d lt
    ∙ ap (λ front. front ++ get_or xs i d ∷ []) before ∙ ap (λ x. take i ys ++ x ∷ []) here
    ∙ sym (take_more ys i e below)

-- if an item differs, the lists do
pub same_stops : {A : Type 0} (xs ys : List A) (i : ℕ) (d e : A) → i < length ys
    → (get_or xs i d ≡ get_or ys i e → ⊥) → xs ≡ ys → ⊥
same_stops xs ys i d e lt apart same = apart (ap (λ zs. get_or zs i d) same ∙ get_or_default ys i d e lt)

-- if all items are the same, the lists are
pub same_ends : {A : Type 0} (xs ys : List A) (n : ℕ) → length xs ≤ n → length xs ≡ length ys
    → take n xs ≡ take n ys → xs ≡ ys
same_ends xs ys n enough as_many same = sym (take_all n xs enough) ∙ same
    ∙ take_all n ys (rw (← as_many) enough)
