-- A pass over the names of the capabilities: those that were found and those that are still to be found.
use Rattle.std.proofs.Common.{◌≡◌, ◌==◌, ℕ, ◌+◌, ◌/◌, ◌%◌, ◌^◌, ◌<◌, List, [], ◌∷◌, ◌++◌, drop, get_or}
use Rattle.std.proofs.Common.{arith, length, map, true, false, refl}
use Rattle.std.specs.Prelude.{filter_map}
use Rattle.std.specs.List.{enumerate_from}
use Rattle.std.specs.Borrow.{Bor}
use Rattle.std.proofs.lemmas.List.{append_assoc, drop_more, map_push}
use Rattle.motchidu_c.specs.Templates.{named_if}

-- the names from this bit on whose bits the mask has
abbrev pub rest : ℕ → ℕ → List (Bor (List ℕ)) → List (List ℕ)
rest mask bit items = filter_map (named_if mask)
    (enumerate_from bit (map (λ name. name.now) (drop bit items)))

pub found : (mask bit : ℕ) (names items : List (Bor (List ℕ))) (d : Bor (List ℕ)) → bit < length items
    → (mask / 2 ^ bit % 2 == 1) ≡ true
    → map (λ name. name.now) (names ++ (get_or items bit d ∷ [])) ++ rest mask (bit + 1) items
    ≡ map (λ name. name.now) names ++ rest mask bit items
found mask bit names items d below has =
    rw (drop_more items bit d below, has, map_push (λ name. name.now) names (get_or items bit d))
    (append_assoc (map (λ name. name.now) names) ((get_or items bit d).now ∷ []) (rest mask (bit + 1) items))

pub passed_over : (mask bit : ℕ) (items : List (Bor (List ℕ))) → bit < length items
    → (mask / 2 ^ bit % 2 == 1) ≡ false → rest mask (bit + 1) items ≡ rest mask bit items
passed_over mask bit [] below has = absurd (omega arith)
passed_over mask bit (item ∷ items) below has = rw (drop_more (item ∷ items) bit item below, has) refl
