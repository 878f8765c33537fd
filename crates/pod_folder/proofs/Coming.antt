-- The first file whose pod is due for admission exists, and asks for a pod.
use Rattle.std.proofs.Common.{◌≡◌, ℕ, Bool, true, false, List, [], ◌∷◌, Option, Some, None, if◌then◌else◌}
use Rattle.std.proofs.Common.{arith}
use Rattle.std.proofs.Common.{IsSomeAnd, is_some, slice_get, get_or, sym, subst, position}
use Rattle.std.proofs.lemmas.List.Quantifiers.{position-Some}
use Rattle.std.proofs.lemmas.Option.{slice_get-get_or}
use Rattle.pod_folder.specs.Folders.{Folders, first_to_come}
use Rattle.pod_folder.specs.Looks.{Found}
use Rattle.pod_folder.specs.Placing.{Placed, comes}

abbrev Asking : Option Found → Type 0
Asking file = IsSomeAnd file (λ f. is_some f.asks ≡ true)

comer_asks : (placed : List Placed) (file : Found) → comes placed file ≡ true → is_some file.asks ≡ true
comer_asks placed file is = grind (arith, is)

found_there : (placed : List Placed) (found : List Found) (place : ℕ) → position (comes placed) found
    ≡ Some place
    → Asking (slice_get found place)
found_there placed [] place is = absurd cc
found_there placed (x ∷ xs) place is =
    let at : _ = position-Some (comes placed) (x ∷ xs) place x is in
    subst Asking (sym (slice_get-get_or (x ∷ xs) place x at.0)) (comer_asks placed (get_or (x ∷ xs) place x)
    at.1)

of_full : (full : Bool) (found : Option ℕ) (place : ℕ) → (if full then None else found) ≡ Some place
    → found ≡ Some place
of_full true found place is = absurd cc
of_full false found place is = is

pub comes_there : (old : Folders) (place : ℕ) → first_to_come old ≡ Some place
    → IsSomeAnd (slice_get old.found place) (λ f. is_some f.asks ≡ true)
comes_there old place is = found_there old.placed old.found place (of_full old.full _ place is)
