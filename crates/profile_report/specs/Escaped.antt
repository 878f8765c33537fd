-- Text inside the elements and the quoted attributes of a page: HTML Living Standard, "Character references".
-- How control characters are shown, and where a text is cut, is this project's own: docs/SEMANTICS.md, "A
-- report".
use Rattle.std.specs.Prelude.{ℕ, ◌-◌, ◌==◌, Bool, ◌||◌, List, [], ◌∷◌, ◌++◌, chars, codes, encode_utf8, nat_le}
use Rattle.std.specs.Prelude.{nat_lt, if◌then◌else◌}
use Rattle.std.specs.Char.{is_control, len_utf8}
use Rattle.json_place.specs.Quoted.{escaped}

-- the references of the five characters that are markup; a control character is shown as JSON (RFC 8259)
-- escapes it
unfoldable pub html_char : ℕ → List ℕ
html_char c =
    if c == 0x26 then codes "&amp;"
    else if c == 0x3c then codes "&lt;"
    else if c == 0x3e then codes "&gt;"
    else if c == 0x22 then codes "&quot;"
    else if c == 0x27 then codes "&#39;"
    else if is_control c then escaped c
    else encode_utf8 c

-- the characters that fit into the bytes left; a cut is marked
abbrev pub html_fitting : ℕ → List ℕ → List ℕ
html_fitting room [] = []
html_fitting room (c ∷ cs) = if nat_le (len_utf8 c) room then html_char c ++ html_fitting (room - len_utf8 c) cs
    else codes ".."

-- a text, of which so many bytes are shown at most
abbrev pub html_text : ℕ → List ℕ → List ℕ
html_text room text = html_fitting room (chars text)

-- `<`, `>` and both quotes, with which markup begins or an attribute ends, and the control bytes of ASCII
abbrev pub is_markup : ℕ → Bool
is_markup byte = (byte == 0x3c) || ((byte == 0x3e) || ((byte == 0x22) || ((byte == 0x27) || (nat_lt byte 0x20
    || byte == 0x7f))))
