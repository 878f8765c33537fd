-- A profile that was added last is remembered.
use Rattle.std.proofs.Common.{◌≡◌, ◌∙◌, ℕ, List, [], ◌∷◌, ◌++◌, Bool, true, false, ◌&&◌, ◌||◌, refl, ap}
use Rattle.std.specs.Prelude.{string_bytes}
use Rattle.std.specs.List.{list_any}
use Rattle.std.specs.Str.{bytes_eq}
use Rattle.std.proofs.lemmas.List.Folds.{list_any-append}
use Rattle.std.proofs.lemmas.Slice.Eq.{bytes_eq-Decides}
use Rattle.runtime_server.specs.Templates.{is_known, is_text}
use Rattle.runtime_server.specs.declared.templates.SeenProfile.{SeenProfile}

or_true : (b : Bool) → (b || true) ≡ true
or_true true = refl
or_true false = refl

same : (bytes : List ℕ) → bytes_eq bytes bytes ≡ true
same bytes = (bytes_eq-Decides bytes bytes).1 refl

is_own : (seen : SeenProfile) → is_text (string_bytes seen.path) seen.bytes.items seen ≡ true
is_own seen = ap (λ b. b && bytes_eq seen.bytes.items seen.bytes.items) (same (string_bytes seen.path))
    ∙ same seen.bytes.items

pub known_last : (profiles : List SeenProfile) (seen : SeenProfile)
    → is_known (string_bytes seen.path) seen.bytes.items (profiles ++ seen ∷ []) ≡ true
known_last profiles seen =
    list_any-append (is_text (string_bytes seen.path) seen.bytes.items) profiles (seen ∷ [])
    ∙ ap (λ b. list_any (is_text (string_bytes seen.path) seen.bytes.items) profiles || (b || false)) (is_own seen)
    ∙ or_true (list_any (is_text (string_bytes seen.path) seen.bytes.items) profiles)
