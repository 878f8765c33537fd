-- A loop that writes item after item.
use Rattle.std.proofs.Common.{◌≡◌, ℕ, ◌+◌, ◌<◌, List, [], ◌∷◌, ◌++◌, length, get_or, map, take, refl}
use Rattle.std.specs.List.{AllByRecursion}
use Rattle.std.proofs.lemmas.List.{map-append, take_more}
use Rattle.serde_json.specs.Data.{Data, string}
use Rattle.sys_table.specs.declared.calls.CallTable.{CallTable}
use Rattle.profile_text.specs.Written.{name_text}

all_push : {A : Type 0} (P : A → Type 0) (xs : List A) (x : A) → AllByRecursion P xs → P x
    → AllByRecursion P (xs ++ x ∷ [])
all_push P [] x all here = (here, tt)
all_push P (y ∷ xs) x all here = (all.0, all_push P xs x all.1 here)

-- one more item fits
pub fits_more : {A : Type 0} (P : A → Type 0) (xs : List A) (i : ℕ) (x : A) → i < length xs
    → x ≡ get_or xs i x → AllByRecursion P (take i xs) → P x → AllByRecursion P (take (i + 1) xs)
fits_more P xs i x lt is all here = rw (take_more xs i x lt, ← is) (all_push P (take i xs) x all here)

map_more : {A D : Type 0} (tree : A → D) (xs : List A) (i : ℕ) (x : A) → i < length xs → x ≡ get_or xs i x
    → map tree (take (i + 1) xs) ≡ map tree (take i xs) ++ tree x ∷ []
map_more tree xs i x lt is = rw (take_more xs i x lt, ← is, map-append) refl

-- one more item is written
pub written_more : {A V D : Type 0} (see : V → D) (tree : A → D) (vs : List V) (xs : List A) (i : ℕ) (x : A)
    (v : V) → i < length xs → x ≡ get_or xs i x
    → map see vs ≡ map tree (take i xs) → see v ≡ tree x → map see (vs ++ v ∷ []) ≡ map tree (take (i + 1) xs)
written_more see tree vs xs i x v lt is before here =
    rw (map_more tree xs i x lt is, map-append, before, here) refl

-- one more name is written
pub named_more : {V : Type 0} (calls : CallTable) (see : V → Data) (vs : List V) (numbers : List ℕ) (i : ℕ) (v : V)
    → i < length numbers
    → map see vs ≡ map string (map (name_text calls) (take i numbers))
    → see v ≡ string (name_text calls (get_or numbers i 0))
    → map see (vs ++ v ∷ []) ≡ map string (map (name_text calls) (take (i + 1) numbers))
named_more calls see vs numbers i v lt before here =
    rw (take_more numbers i 0 lt, map-append, map-append, map-append, before, here) refl
