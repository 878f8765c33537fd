-- What a text begins with: JSON (RFC 8259), or YAML 1.2.
use Rattle.std.specs.Prelude.{ℕ, ◌==◌, Bool, false, not, ◌||◌, ◌&&◌, nat_le, List, position, Option}
use Rattle.std.specs.Prelude.{Some, None, drop, slice_index}

-- RFC 8259, section 2: a blank, a tab, the end of a line
abbrev pub is_space : ℕ → Bool
is_space byte = byte == 32 || byte == 9 || byte == 10 || byte == 13

abbrev pub brace_at : List ℕ → Option ℕ → Bool
brace_at bytes None = false
brace_at bytes (Some first) = slice_index bytes first == 123

-- the first byte that is no white space begins an object
abbrev pub begins_object : List ℕ → Bool
begins_object bytes = brace_at bytes (position (λ byte. not (is_space byte)) bytes)

abbrev pub bracket_at : List ℕ → Option ℕ → Bool
bracket_at bytes None = false
bracket_at bytes (Some first) = slice_index bytes first == 91

-- the first byte that is no white space begins a list
abbrev pub begins_list : List ℕ → Bool
begins_list bytes = bracket_at bytes (position (λ byte. not (is_space byte)) bytes)

abbrev pub is_letter : ℕ → Bool
is_letter byte = (nat_le 65 byte && nat_le byte 90) || (nat_le 97 byte && nat_le byte 122)

abbrev pub letter_at : List ℕ → Option ℕ → Bool
letter_at bytes None = false
letter_at bytes (Some first) = is_letter (slice_index bytes first)

-- the first byte that is no white space is a letter
abbrev pub begins_key : List ℕ → Bool
begins_key bytes = letter_at bytes (position (λ byte. not (is_space byte)) bytes)

-- a mapping in flow form, YAML 1.2, section 7.4: a brace, and a key without quotes
abbrev pub opens_mapping : List ℕ → Bool
opens_mapping bytes = slice_index bytes 0 == 123 && begins_key (drop 1 bytes)

-- a key, `-`, `#` or `%`: YAML 1.2, sections 5.3 and 6
abbrev pub is_yaml_start : ℕ → Bool
is_yaml_start byte = is_letter byte || byte == 45 || byte == 35 || byte == 37

abbrev pub yaml_at : List ℕ → Option ℕ → Bool
yaml_at bytes None = false
yaml_at bytes (Some first) = is_yaml_start (slice_index bytes first) || opens_mapping (drop first bytes)

-- the text begins as YAML does
abbrev pub begins_yaml : List ℕ → Bool
begins_yaml bytes = yaml_at bytes (position (λ byte. not (is_space byte)) bytes)
