-- A text as it is shown to a person: characters escaped as in JSON (RFC 8259, section 7), and where the text
-- is cut, this project's own.
use Rattle.std.specs.Prelude.{ℕ, ◌-◌, ◌==◌, List, [], ◌∷◌, ◌++◌, length, replicate, false, chars, codes}
use Rattle.std.specs.Prelude.{encode_utf8, nat_le, if◌then◌else◌}
use Rattle.std.specs.Fmt.{digits}
use Rattle.std.specs.Char.{is_control, len_utf8}
use Rattle.json_place.specs.declared.quoted.TheConstants.{MAX_SHOWN}

-- by four hexadecimal digits
abbrev pub coded : ℕ → List ℕ
coded n = codes "\\u" ++ replicate (4 - length (digits 16 false n)) 48 ++ digits 16 false n

abbrev pub escaped : ℕ → List ℕ
escaped c =
    if c == 0x22 then codes "\\\""
    else if c == 0x5c then codes "\\\\"
    else if c == 0x0a then codes "\\n"
    else if c == 0x0d then codes "\\r"
    else if c == 0x09 then codes "\\t"
    else if is_control c then coded c
    else encode_utf8 c

-- the characters that fit into the bytes left, and the end: a cut is marked
abbrev pub fitting : ℕ → List ℕ → List ℕ
fitting room [] = codes "\""
fitting room (c ∷ cs) = if nat_le (len_utf8 c) room then escaped c ++ fitting (room - len_utf8 c) cs
    else codes "\".."

abbrev pub quoted_text : List ℕ → List ℕ
quoted_text text = codes "\"" ++ fitting MAX_SHOWN (chars text)
