-- A text as shown, character by character.
use Rattle.std.proofs.Common.{◌≡◌, ℕ, ◌-◌, ◌^◌, ◌<◌, ◌≤◌, List, [], ◌++◌, length, false, IsUtf8, chars, codes}
use Rattle.std.proofs.Common.{encode_utf8, append_assoc, refl, ap, ◌∙◌, arith}
use Rattle.std.specs.Prelude.{replicate}
use Rattle.std.specs.Char.{len_utf8}
use Rattle.std.specs.Fmt.{char_count, format_spec, padded_integral, HasWritten}
use Rattle.std.specs.declared.fmt.Formatter.{Formatter}
use Rattle.std.proofs.lemmas.Grind.{put_two}
use Rattle.std.proofs.lemmas.Bool.{le-leb, lt-leb}
use Rattle.std.proofs.lemmas.List.{append-nil, nil_from_length}
use Rattle.std.proofs.lemmas.Str.{chars-nil, chars_past_char}
use Rattle.json_place.specs.Quoted.{escaped, fitting}

-- one more character is shown
pub fits_more : (done all text rest : List ℕ) (c room left : ℕ) → IsUtf8 text → text ≡ encode_utf8 c ++ rest
    → len_utf8 c ≤ room → left ≡ room - len_utf8 c
    → done ++ fitting room (chars text) ≡ all → (done ++ escaped c) ++ fitting left (chars rest) ≡ all
fits_more done all text rest c room left utf8 parts fits is h =
    append_assoc done (escaped c) (fitting left (chars rest))
    ∙ rw (is) (rw (chars_past_char text rest c utf8 parts, le-leb (len_utf8 c) room fits) at h)

-- the first character that does not fit ends it
pub stops : (done all text rest : List ℕ) (c room : ℕ) → IsUtf8 text → text ≡ encode_utf8 c ++ rest
    → room < len_utf8 c
    → done ++ fitting room (chars text) ≡ all → done ++ codes "\".." ≡ all
stops done all text rest c room utf8 parts large h =
    rw (chars_past_char text rest c utf8 parts, lt-leb (len_utf8 c) room large) at h

-- so does the text's end
pub ends : (done all text : List ℕ) (room : ℕ) → length text ≡ 0 → done ++ fitting room (chars text) ≡ all
    → done ++ codes "\"" ≡ all
ends done all text room none h = rw (nil_from_length text none, chars-nil) at h

-- a hole of four hexadecimal digits
pub padded_to_four : (numeral : List ℕ) → padded_integral (format_spec 32 0 4 4 (2 ^ 64 - 1)) false [] numeral
    ≡ replicate (4 - length numeral) 48 ++ numeral
unfolding padded_integral char_count
padded_to_four numeral =
    ap (λ (n : ℕ). replicate n 48 ++ (numeral ++ [])) (omega arith)
    ∙ ap (λ (t : List ℕ). replicate (4 - length numeral) 48 ++ t) (append-nil numeral)

-- text written after other text
pub put_more : {W : Type 0} (took : W → List ℕ → W → Type 0) (f g h : Formatter W) (done more : List ℕ)
    → HasWritten took f done g → HasWritten took g more h → HasWritten took f (done ++ more) h
put_more took f g h done more before here = put_two took f g h done more (done ++ more) before here refl
