-- A loop that writes entry after entry.
use Rattle.std.proofs.Common.{◌≡◌, ℕ, ◌+◌, ◌<◌, List, [], ◌∷◌, ◌++◌, length, get_or, map, take, refl}
use Rattle.std.specs.List.{AllByRecursion}
use Rattle.std.proofs.lemmas.List.{map-append, take_more}
use Rattle.json_tree.proofs.Loops.{map_more}

all_push : {A : Type 0} (P : A → Type 0) (xs : List A) (x : A) → AllByRecursion P xs → P x
    → AllByRecursion P (xs ++ x ∷ [])
all_push P [] x all here = (here, tt)
all_push P (y ∷ xs) x all here = (all.0, all_push P xs x all.1 here)

-- one more entry fits
pub fits_more : {A : Type 0} (P : A → Type 0) (xs : List A) (i : ℕ) (x : A) → i < length xs
    → x ≡ get_or xs i x → AllByRecursion P (take i xs) → P x → AllByRecursion P (take (i + 1) xs)
fits_more P xs i x lt is all here = rw (take_more xs i x lt, ← is) (all_push P (take i xs) x all here)

-- one more entry is written
pub written_more : {A V D : Type 0} (see : V → D) (tree : A → D) (vs : List V) (xs : List A) (i : ℕ) (x : A)
    (v : V) → i < length xs → x ≡ get_or xs i x
    → map see vs ≡ map tree (take i xs) → see v ≡ tree x → map see (vs ++ v ∷ []) ≡ map tree (take (i + 1) xs)
written_more see tree vs xs i x v lt is before here =
    rw (map_more tree xs i x lt is, map-append, before, here) refl
