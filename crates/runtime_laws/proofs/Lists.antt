-- Cells of a list, found by their containers: what is found once some are changed, one is dropped, or one is
-- added.
use Rattle.std.proofs.Common.{◌≡◌, inl, inr, Bool, true, false, cond, List, [], ◌∷◌, ◌++◌, map, Option, Some}
use Rattle.std.proofs.Common.{None, refl, sym, ap, subst, ◌∙◌}
use Rattle.std.specs.Prelude.{◌⊎◌, ◌==◌, ⊤}
use Rattle.std.specs.List.{find, list_any}
use Rattle.std.specs.Str.{bytes_eq}
use Rattle.std.specs.BTreeSet.{insert_key}
use Rattle.std.specs.Cmp.Lexicographic.{slice_cmp}
use Rattle.std.specs.Ordering.{match_ordering, nat_cmp, ordering_then}
use Rattle.std.specs.declared.cmp.Ordering.{Ordering}
use Rattle.std.specs.declared.cmp.Ordering.TheVariants.{Less, Equal, Greater}
use Rattle.std.proofs.lemmas.Bool.{and_from, and_parts, cond-true, eqb-true, eq-eqb, or_cases, or_left}
use Rattle.std.proofs.lemmas.Bool.{or_right, cond-false, false_from_ne_true}
use Rattle.std.proofs.lemmas.Map.Lookups.{exact_bytes, exact_unsigned}
use Rattle.std.proofs.lemmas.Slice.Eq.{bytes_eq-Decides}
use Rattle.cri_msgs.specs.Order.{container_cmp}
use Rattle.cri_msgs.specs.declared.keys.ContainerMetadata.{ContainerMetadata}
use Rattle.runtime_cell.specs.Cell.{Cell, Making}
use Rattle.registry.specs.Runtime.{AreDistinct, In, change_first, container_in, container_of, drop_first}
use Rattle.registry.specs.Runtime.{is_of, is_same}

container_is : (a b : ContainerMetadata) → a.name ≡ b.name → a.attempt ≡ b.attempt → a ≡ b
container_is a b names attempts = λ i. record { name = names i; attempt = attempts i }

pub same_is : (a b : ContainerMetadata) → is_same a b ≡ true → a ≡ b
same_is a b e =
    let both = and_parts (bytes_eq a.name b.name) (a.attempt == b.attempt) e in
    container_is a b ((bytes_eq-Decides a.name b.name).0 both.0) (eqb-true a.attempt b.attempt both.1)

pub is_same_as : (a b : ContainerMetadata) → a ≡ b → is_same a b ≡ true
is_same_as a b e =
    and_from (bytes_eq a.name b.name) (a.attempt == b.attempt)
    ((bytes_eq-Decides a.name b.name).1 (ap (λ (k : ContainerMetadata). k.name) e))
    (eq-eqb a.attempt b.attempt (ap (λ (k : ContainerMetadata). k.attempt) e))

pub in_map : {A B : Type 0} (f : A → B) (x : A) (xs : List A) → In x xs → In (f x) (map f xs)
in_map f x [] i = absurd i
in_map f x (y ∷ ys) (inl e) = inl (ap f e)
in_map f x (y ∷ ys) (inr i) = inr (in_map f x ys i)

found_by : (k : ContainerMetadata) (x : Cell) (xs : List Cell) (c : Cell) (test : Bool) → is_of k x ≡ test
    → (find (is_of k) xs ≡ Some c → In c xs × (container_in c ≡ k)) → cond test (Some x) (find (is_of k) xs)
    ≡ Some c → In c (x ∷ xs) × (container_in c ≡ k)
found_by k x xs c true passes rest e =
    let same : x ≡ c = cc in
    (inl (sym same), ap container_in (sym same) ∙ sym (same_is k (container_in x) passes))
found_by k x xs c false passes rest e =
    let behind = rest e in
    (inr behind.0, behind.1)

-- what is found is of the container that was looked for
pub found_there : (k : ContainerMetadata) (cells : List Cell) (c : Cell) → find (is_of k) cells ≡ Some c
    → In c cells × (container_in c ≡ k)
found_there k [] c e = absurd cc
found_there k (x ∷ xs) c e = found_by k x xs c (is_of k x) refl (found_there k xs c) e

none_by : (k : ContainerMetadata) (x : Cell) (o : Option Cell) (test : Bool) → is_of k x ≡ test
    → ¬ (k ≡ container_in x) → o ≡ None → cond test (Some x) o ≡ None
none_by k x o true passes differs e = absurd (differs (same_is k (container_in x) passes))
none_by k x o false passes differs e = e

pub find_none : (k : ContainerMetadata) (cells : List Cell) → ¬ In k (map container_in cells)
    → find (is_of k) cells ≡ None
find_none k [] out = refl
find_none k (x ∷ xs) out = none_by k x (find (is_of k) xs) (is_of k x) refl (λ e. out (inl e))
    (find_none k xs (λ i. out (inr i)))

here_by : (k : ContainerMetadata) (x : Cell) (o : Option Cell) (c : Cell) (test : Bool) → is_of k x ≡ test
    → ¬ (k ≡ container_in x) → o ≡ Some c → cond test (Some x) o ≡ Some c
here_by k x o c true passes differs e = absurd (differs (same_is k (container_in x) passes))
here_by k x o c false passes differs e = e

-- if containers are distinct, each cell is the one that is found by its container
pub find_here : (cells : List Cell) → AreDistinct (map container_in cells) → (c : Cell) → In c cells
    → find (is_of (container_in c)) cells ≡ Some c
find_here [] distinct c i = absurd i
find_here (x ∷ xs) distinct c (inl e) =
    cond-true (is_of (container_in c) x) (Some x) (find (is_of (container_in c)) xs)
    (is_same_as (container_in c) (container_in x) (ap container_in e)) ∙ ap {B = Option Cell} Some (sym e)
find_here (x ∷ xs) distinct c (inr i) =
    here_by (container_in c) x (find (is_of (container_in c)) xs) c (is_of (container_in c) x) refl
    (λ same. distinct.0 (subst (λ k. In k (map container_in xs)) same (in_map container_in c xs i)))
    (find_here xs distinct.1 c i)

-- each cell of the list becomes the one at its place in the other
abbrev pub AreMoved : (Cell → Cell → Type 0) → List Cell → List Cell → Type 0
AreMoved Moves [] [] = ⊤
AreMoved Moves [] (y ∷ ys) = ⊥
AreMoved Moves (x ∷ xs) [] = ⊥
AreMoved Moves (x ∷ xs) (y ∷ ys) = Moves x y × AreMoved Moves xs ys

abbrev pub MovesFound : (Cell → Cell → Type 0) → Option Cell → Option Cell → Type 0
MovesFound Moves None None = ⊤
MovesFound Moves None (Some y) = ⊥
MovesFound Moves (Some x) None = ⊥
MovesFound Moves (Some x) (Some y) = Moves x y

abbrev pub Keeps : (Cell → Cell → Type 0) → Type 0
Keeps Moves = (c d : Cell) → Moves c d → d.making ≡ c.making

moved_by : (Moves : Cell → Cell → Type 0) (x y : Cell) (o p : Option Cell) (test : Bool) → Moves x y
    → MovesFound Moves o p → MovesFound Moves (cond test (Some x) o) (cond test (Some y) p)
moved_by Moves x y o p true here rest = here
moved_by Moves x y o p false here rest = rest

pub find_moved : (Moves : Cell → Cell → Type 0) → Keeps Moves → (k : ContainerMetadata) (xs ys : List Cell)
    → AreMoved Moves xs ys → MovesFound Moves (find (is_of k) xs) (find (is_of k) ys)
find_moved Moves keeps k [] [] moved = tt
find_moved Moves keeps k [] (y ∷ ys) moved = absurd moved
find_moved Moves keeps k (x ∷ xs) [] moved = absurd moved
find_moved Moves keeps k (x ∷ xs) (y ∷ ys) moved =
    subst (λ test. MovesFound Moves (cond (is_of k x) (Some x) (find (is_of k) xs))
    (cond test (Some y) (find (is_of k) ys)))
    (ap (λ (m : Making). is_same k (container_of m.label)) (sym (keeps x y moved.0)))
    (moved_by Moves x y (find (is_of k) xs) (find (is_of k) ys) (is_of k x) moved.0
    (find_moved Moves keeps k xs ys moved.1))

pub moved_containers : (Moves : Cell → Cell → Type 0) → Keeps Moves → (xs ys : List Cell)
    → AreMoved Moves xs ys → map container_in ys ≡ map container_in xs
moved_containers Moves keeps [] [] moved = refl
moved_containers Moves keeps [] (y ∷ ys) moved = absurd moved
moved_containers Moves keeps (x ∷ xs) [] moved = absurd moved
moved_containers Moves keeps (x ∷ xs) (y ∷ ys) moved =
    ap (λ k. k ∷ map container_in ys) (ap (λ (m : Making). container_of m.label) (keeps x y moved.0))
    ∙ ap (λ ks. container_in x ∷ ks) (moved_containers Moves keeps xs ys moved.1)

pub moved_nil : (Moves : Cell → Cell → Type 0) (xs ys : List Cell) → AreMoved Moves xs ys → xs ≡ [] → ys ≡ []
moved_nil Moves [] [] moved e = refl
moved_nil Moves [] (y ∷ ys) moved e = absurd moved
moved_nil Moves (x ∷ xs) ys moved e = absurd cc

pub map_moved : (Moves : Cell → Cell → Type 0) (f : Cell → Cell) → ((c : Cell) → Moves c (f c))
    → (xs : List Cell) → AreMoved Moves xs (map f xs)
map_moved Moves f each [] = tt
map_moved Moves f each (x ∷ xs) = (each x, map_moved Moves f each xs)

pub still_moved : (Moves : Cell → Cell → Type 0) → ((c : Cell) → Moves c c) → (xs : List Cell)
    → AreMoved Moves xs xs
still_moved Moves still [] = tt
still_moved Moves still (x ∷ xs) = (still x, still_moved Moves still xs)

first_by : (Moves : Cell → Cell → Type 0) (x y : Cell) (xs ys : List Cell) (test : Bool) → Moves x x
    → Moves x y → AreMoved Moves xs xs → AreMoved Moves xs ys
    → AreMoved Moves (x ∷ xs) (cond test (y ∷ xs) (x ∷ ys))
first_by Moves x y xs ys true still moves all rest = (moves, all)
first_by Moves x y xs ys false still moves all rest = (still, rest)

pub first_moved : (Moves : Cell → Cell → Type 0) (test : Cell → Bool) (f : Cell → Cell)
    → ((c : Cell) → Moves c c) → ((c : Cell) → Moves c (f c)) → (xs : List Cell)
    → AreMoved Moves xs (change_first test f xs)
first_moved Moves test f still each [] = tt
first_moved Moves test f still each (x ∷ xs) =
    first_by Moves x (f x) xs (change_first test f xs) (test x) (still x) (each x)
    (still_moved Moves still xs) (first_moved Moves test f still each xs)

pub split_moved : (Moves : Cell → Cell → Type 0) → ((c : Cell) → Moves c c) → (cell later : Cell)
    → Moves cell later → (front back : List Cell)
    → AreMoved Moves (front ++ cell ∷ back) (front ++ later ∷ back)
split_moved Moves still cell later moves [] back = (moves, still_moved Moves still back)
split_moved Moves still cell later moves (x ∷ front) back =
    (still x, split_moved Moves still cell later moves front back)

pub in_split : (front : List Cell) (cell : Cell) (back : List Cell) → In cell (front ++ cell ∷ back)
in_split [] cell back = inl refl
in_split (x ∷ front) cell back = inr (in_split front cell back)

less_by : (k : ContainerMetadata) (x : Cell) (xs ys : List Cell) (test : Bool)
    → (In k (map container_in ys) → In k (map container_in xs))
    → In k (map container_in (cond test xs (x ∷ ys))) → In k (map container_in (x ∷ xs))
less_by k x xs ys true rest i = inr i
less_by k x xs ys false rest (inl e) = inl e
less_by k x xs ys false rest (inr i) = inr (rest i)

-- if the one cell that changes is of another container, the same one is found
pub find_other : (k : ContainerMetadata) (cell later : Cell) → ¬ (k ≡ container_in cell)
    → ¬ (k ≡ container_in later) → (front back : List Cell)
    → find (is_of k) (front ++ later ∷ back) ≡ find (is_of k) (front ++ cell ∷ back)
find_other k cell later differs differs' [] back =
    cond-false (is_of k later) (Some later) (find (is_of k) back)
    (false_from_ne_true (is_of k later) (λ e. differs' (same_is k (container_in later) e)))
    ∙ sym (cond-false (is_of k cell) (Some cell) (find (is_of k) back)
    (false_from_ne_true (is_of k cell) (λ e. differs (same_is k (container_in cell) e))))
find_other k cell later differs differs' (x ∷ front) back =
    ap (λ o. cond (is_of k x) (Some x) o) (find_other k cell later differs differs' front back)

-- one cell is dropped, and none is added
pub drop_less : (test : Cell → Bool) (k : ContainerMetadata) (xs : List Cell)
    → In k (map container_in (drop_first test xs)) → In k (map container_in xs)
drop_less test k [] i = i
drop_less test k (x ∷ xs) i = less_by k x xs (drop_first test xs) (test x) (drop_less test k xs) i

distinct_by : (x : Cell) (xs ys : List Cell) (test : Bool)
    → ((k : ContainerMetadata) → In k (map container_in ys) → In k (map container_in xs))
    → AreDistinct (map container_in ys)
    → AreDistinct (map container_in (x ∷ xs)) → AreDistinct (map container_in (cond test xs (x ∷ ys)))
distinct_by x xs ys true less rest distinct = distinct.1
distinct_by x xs ys false less rest distinct = (λ i. distinct.0 (less (container_in x) i), rest)

pub drop_distinct : (test : Cell → Bool) (xs : List Cell) → AreDistinct (map container_in xs)
    → AreDistinct (map container_in (drop_first test xs))
drop_distinct test [] distinct = tt
drop_distinct test (x ∷ xs) distinct = distinct_by x xs (drop_first test xs) (test x)
    (λ k. drop_less test k xs) (drop_distinct test xs distinct.1) distinct

-- what was found before, or nothing where something was found
abbrev pub IsLeft : Option Cell → Option Cell → Type 0
IsLeft old new = (new ≡ old) ⊎ ((new ≡ None) × ((c : Cell) × (old ≡ Some c)))

left_kept : (x : Cell) (o p : Option Cell) (test : Bool) → IsLeft o p
    → IsLeft (cond test (Some x) o) (cond test (Some x) p)
left_kept x o p true left = inl refl
left_kept x o p false left = left

left_dropped : (k : ContainerMetadata) (x : Cell) (xs : List Cell) (test : Bool) → is_of k x ≡ test
    → ¬ In (container_in x) (map container_in xs)
    → IsLeft (cond test (Some x) (find (is_of k) xs)) (find (is_of k) xs)
left_dropped k x xs true passes out = inr (
  find_none k xs (λ i. out (subst (λ c. In c (map container_in xs))
      (same_is k (container_in x) passes) i)),
  (x, refl),
)
left_dropped k x xs false passes out = inl refl

left_by : (k : ContainerMetadata) (x : Cell) (xs ys : List Cell) (test : Bool)
    → ¬ In (container_in x) (map container_in xs) → IsLeft (find (is_of k) xs) (find (is_of k) ys)
    → IsLeft (find (is_of k) (x ∷ xs)) (find (is_of k) (cond test xs (x ∷ ys)))
left_by k x xs ys true out rest = left_dropped k x xs (is_of k x) refl out
left_by k x xs ys false out rest = left_kept x (find (is_of k) xs) (find (is_of k) ys) (is_of k x) rest

pub find_dropped : (test : Cell → Bool) (k : ContainerMetadata) (xs : List Cell)
    → AreDistinct (map container_in xs) → IsLeft (find (is_of k) xs) (find (is_of k) (drop_first test xs))
find_dropped test k [] distinct = inl refl
find_dropped test k (x ∷ xs) distinct =
    left_by k x xs (drop_first test xs) (test x) distinct.0 (find_dropped test k xs distinct.1)

-- one more at the end
pub in_more : (k : ContainerMetadata) (xs : List Cell) (c : Cell) → In k (map container_in (xs ++ c ∷ []))
    → In k (map container_in xs) ⊎ (k ≡ container_in c)
in_more k [] c (inl e) = inr e
in_more k [] c (inr i) = absurd i
in_more k (x ∷ xs) c (inl e) = inl (inl e)
in_more k (x ∷ xs) c (inr i) = elim (in_more k xs c i) [ inl there ↦ inl (inr there) | inr e ↦ inr e ]

pub more_distinct : (xs : List Cell) (c : Cell) → AreDistinct (map container_in xs)
    → ¬ In (container_in c) (map container_in xs) → AreDistinct (map container_in (xs ++ c ∷ []))
more_distinct [] c distinct out = (λ i. i, tt)
more_distinct (x ∷ xs) c distinct out = (
  λ i. elim (in_more (container_in x) xs c i) [ inl there ↦ distinct.0 there | inr e ↦ out (inl (sym e)) ],
  more_distinct xs c distinct.1 (λ i. out (inr i)),
)

-- the containers that were used, with one more
used_by : (k x key : ContainerMetadata) (xs ys : List ContainerMetadata) (order : Ordering)
    → (list_any (is_same k) xs ≡ true → list_any (is_same k) ys ≡ true)
    → list_any (is_same k) (x ∷ xs) ≡ true
    → list_any (is_same k) (match_ordering order (key ∷ x ∷ xs) (x ∷ xs) (x ∷ ys)) ≡ true
used_by k x key xs ys Less rest e = or_right (is_same k key) (list_any (is_same k) (x ∷ xs)) e
used_by k x key xs ys Equal rest e = e
used_by k x key xs ys Greater rest e = elim (or_cases (is_same k x) (list_any (is_same k) xs) e) [
  | inl here ↦ or_left (is_same k x) (list_any (is_same k) ys) here
  | inr there ↦ or_right (is_same k x) (list_any (is_same k) ys) (rest there)
]

pub used_still : (k key : ContainerMetadata) (xs : List ContainerMetadata) → list_any (is_same k) xs ≡ true
    → list_any (is_same k) (insert_key container_cmp xs key) ≡ true
used_still k key [] e = absurd cc
used_still k key (x ∷ xs) e = used_by k x key xs (insert_key container_cmp xs key) (container_cmp key x)
    (used_still k key xs) e

then_equal : (a b : Ordering) → ordering_then a b ≡ Equal → (a ≡ Equal) × (b ≡ Equal)
then_equal Less b e = absurd cc
then_equal Equal b e = (refl, e)
then_equal Greater b e = absurd cc

tied_is : (a b : ContainerMetadata) → container_cmp a b ≡ Equal → a ≡ b
tied_is a b e =
    let both = then_equal (slice_cmp nat_cmp a.name b.name) (nat_cmp a.attempt b.attempt) e in
    container_is a b (exact_bytes a.name b.name both.0) (exact_unsigned a.attempt b.attempt both.1)

now_by : (x key : ContainerMetadata) (xs ys : List ContainerMetadata) (order : Ordering)
    → container_cmp key x ≡ order → list_any (is_same key) ys ≡ true
    → list_any (is_same key) (match_ordering order (key ∷ x ∷ xs) (x ∷ xs) (x ∷ ys)) ≡ true
now_by x key xs ys Less is rest = or_left (is_same key key) (list_any (is_same key) (x ∷ xs))
    (is_same_as key key refl)
now_by x key xs ys Equal is rest = or_left (is_same key x) (list_any (is_same key) xs)
    (is_same_as key x (tied_is key x is))
now_by x key xs ys Greater is rest = or_right (is_same key x) (list_any (is_same key) ys) rest

pub used_now : (key : ContainerMetadata) (xs : List ContainerMetadata)
    → list_any (is_same key) (insert_key container_cmp xs key) ≡ true
used_now key [] = or_left (is_same key key) false (is_same_as key key refl)
used_now key (x ∷ xs) = now_by x key xs (insert_key container_cmp xs key) (container_cmp key x) refl
    (used_now key xs)
