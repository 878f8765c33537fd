-- Which texts are names, uids and paths of a pod. The names are those of Kubernetes 1.27, "Object Names and
-- IDs": RFC 1123 label names for namespaces and containers, DNS subdomain names for pods (where one label
-- may begin or end with a dash, or have no byte: this project's own). The rules for uids and for paths are
-- this project's own.
use Rattle.std.specs.Prelude.{ℕ, ◌==◌, ◌-◌, List, length, codes, Bool, not, ◌&&◌, ◌||◌, nat_le, slice_index}
use Rattle.std.specs.List.{list_all, list_any, slice_split}
use Rattle.std.specs.Str.{bytes_eq}

-- the byte is between these, both included
abbrev pub is_between : ℕ → ℕ → ℕ → Bool
is_between low high byte = nat_le low byte && nat_le byte high

abbrev pub is_digit : ℕ → Bool
is_digit byte = is_between 48 57 byte

abbrev pub is_lower : ℕ → Bool
is_lower byte = is_between 97 122 byte

abbrev pub is_upper : ℕ → Bool
is_upper byte = is_between 65 90 byte

-- a lower-case letter or a digit
abbrev pub is_plain_byte : ℕ → Bool
is_plain_byte byte = is_lower byte || is_digit byte

-- a lower-case letter, a digit or a dash
abbrev pub is_label_byte : ℕ → Bool
is_label_byte byte = is_plain_byte byte || byte == 45

-- that or a dot
abbrev pub is_pod_byte : ℕ → Bool
is_pod_byte byte = is_label_byte byte || byte == 46

-- a letter, a digit, a dash or a dot
abbrev pub is_uid_byte : ℕ → Bool
is_uid_byte byte = is_pod_byte byte || is_upper byte

-- at least one byte, and at most this many
abbrev pub has_length_to : ℕ → List ℕ → Bool
has_length_to most bytes = nat_le 1 (length bytes) && nat_le (length bytes) most

-- begins and ends with a lower-case letter or a digit
abbrev pub has_plain_ends : List ℕ → Bool
has_plain_ends bytes = is_plain_byte (slice_index bytes 0)
    && is_plain_byte (slice_index bytes (length bytes - 1))

-- a pod's name
unfoldable pub is_pod_name : List ℕ → Bool
is_pod_name bytes = has_length_to 253 bytes && list_all is_pod_byte bytes && has_plain_ends bytes

-- a namespace's or a container's name
unfoldable pub is_label : List ℕ → Bool
is_label bytes = has_length_to 63 bytes && list_all is_label_byte bytes && has_plain_ends bytes

unfoldable pub is_uid : List ℕ → Bool
is_uid bytes = has_length_to 317 bytes && list_all is_uid_byte bytes

-- a part between slashes leads to the folder above
unfoldable pub climbs : List ℕ → Bool
climbs bytes = list_any (λ part. bytes_eq part (codes "..")) (slice_split (λ byte. byte == 47) bytes)

abbrev pub is_rooted : List ℕ → Bool
is_rooted bytes = slice_index bytes 0 == 47

abbrev pub has_zero : List ℕ → Bool
has_zero bytes = list_any (λ byte. byte == 0) bytes

-- a path that stays below the folder that it is relative to
unfoldable pub is_descending : List ℕ → Bool
is_descending bytes = has_length_to 1024 bytes && not (is_rooted bytes) && not (has_zero bytes)
    && not (climbs bytes)
