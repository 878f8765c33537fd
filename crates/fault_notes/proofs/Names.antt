-- What is shown of a name, character by character.
use Rattle.std.proofs.Common.{◌≡◌, ℕ, List, ◌++◌, length, IsUtf8, chars, encode_utf8, append_assoc, ◌∙◌}
use Rattle.std.specs.Prelude.{flat_map}
use Rattle.std.proofs.lemmas.List.{append-nil, nil_from_length}
use Rattle.std.proofs.lemmas.List.Concat.{flat_map-cons}
use Rattle.std.proofs.lemmas.Str.{chars-nil, chars_past_char}
use Rattle.json_place.specs.Quoted.{escaped}

-- one more character is shown
pub one_more : (done all text rest : List ℕ) (c : ℕ) → IsUtf8 text → text ≡ encode_utf8 c ++ rest
    → done ++ flat_map escaped (chars text) ≡ all → (done ++ escaped c) ++ flat_map escaped (chars rest) ≡ all
one_more done all text rest c utf8 parts h =
    append_assoc done (escaped c) (flat_map escaped (chars rest))
    ∙ (rw (chars_past_char text rest c utf8 parts, flat_map-cons escaped c (chars rest)) at h)

-- nothing is left
pub ends : (done all text : List ℕ) → length text ≡ 0 → done ++ flat_map escaped (chars text) ≡ all
    → done ≡ all
ends done all text none h = rw (nil_from_length text none, chars-nil, append-nil done) at h
