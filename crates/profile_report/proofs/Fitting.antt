-- A text in a page, character by character.
use Rattle.std.proofs.Common.{◌≡◌, ℕ, ◌-◌, ◌<◌, ◌≤◌, List, ◌++◌, length, IsUtf8, chars, codes, encode_utf8}
use Rattle.std.proofs.Common.{append_assoc, ◌∙◌}
use Rattle.std.specs.Char.{len_utf8}
use Rattle.std.proofs.lemmas.Bool.{le-leb, lt-leb}
use Rattle.std.proofs.lemmas.List.{append-nil, nil_from_length}
use Rattle.std.proofs.lemmas.Str.{chars-nil, chars_past_char}
use Rattle.profile_report.specs.Escaped.{html_char, html_fitting}

-- one more character is shown
pub fits_more : (done all text rest : List ℕ) (c room left : ℕ) → IsUtf8 text → text ≡ encode_utf8 c ++ rest
    → len_utf8 c ≤ room → left ≡ room - len_utf8 c
    → done ++ html_fitting room (chars text) ≡ all
    → (done ++ html_char c) ++ html_fitting left (chars rest) ≡ all
fits_more done all text rest c room left utf8 parts fits is h =
    append_assoc done (html_char c) (html_fitting left (chars rest))
    ∙ rw (is) (rw (chars_past_char text rest c utf8 parts, le-leb (len_utf8 c) room fits) at h)

-- the first character that does not fit ends it
pub stops : (done all text rest : List ℕ) (c room : ℕ) → IsUtf8 text → text ≡ encode_utf8 c ++ rest
    → room < len_utf8 c
    → done ++ html_fitting room (chars text) ≡ all → done ++ codes ".." ≡ all
stops done all text rest c room utf8 parts large h =
    rw (chars_past_char text rest c utf8 parts, lt-leb (len_utf8 c) room large) at h

-- so does the text's end
pub ends : (done all text : List ℕ) (room : ℕ) → length text ≡ 0 → done ++ html_fitting room (chars text) ≡ all
    → done ≡ all
ends done all text room none h = rw (nil_from_length text none, chars-nil, append-nil done) at h
