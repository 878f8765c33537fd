-- The file of a compiled filter: its instructions as bytes, or their Base64 (RFC 4648, section 4) as a line.
use Rattle.std.specs.Prelude.{ℕ, Bool, true, false, List, ◌++◌, codes}
use Rattle.base64.specs.Engines.{standard}
use Rattle.base64.specs.GeneralPurpose.{encode_of}

abbrev pub file_bytes : Bool → List ℕ → List ℕ
file_bytes true code = encode_of standard code ++ codes "\n"
file_bytes false code = code
