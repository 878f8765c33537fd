-- What the bytes of a text show: a byte order mark (RFC 3629, section 6), and what begins a document of JSON (RFC
-- 8259).
use Rattle.std.specs.Prelude.{ℕ, ◌==◌, Bool, not, ◌||◌, ◌&&◌, List, slice_index}
use Rattle.std.specs.List.{filter}
use Rattle.fault_notes.specs.Starts.{begins_list, begins_object, is_space}

abbrev pub begins_with_mark : List ℕ → Bool
begins_with_mark bytes = slice_index bytes 0 == 0xef && slice_index bytes 1 == 0xbb
    && slice_index bytes 2 == 0xbf

-- the first byte that is no white space begins an object or a list
abbrev pub begins_document : List ℕ → Bool
begins_document bytes = begins_object bytes || begins_list bytes

abbrev pub without_space : List ℕ → List ℕ
without_space bytes = filter (λ byte. not (is_space byte)) bytes
