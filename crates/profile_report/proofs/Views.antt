-- The texts of a list of strings are as many as the strings, and so are the first ones.
use Rattle.std.proofs.Common.{◌≡◌, ℕ, List, length, map, take, ap, ◌∙◌}
use Rattle.std.specs.Prelude.{min, string_bytes, String}
use Rattle.std.specs.Global.{Global}
use Rattle.std.proofs.lemmas.List.{length-map, take-map}
use Rattle.profile_report.specs.Ways.{first}

pub as_many : (lines : List (String Global)) → length (map string_bytes lines) ≡ length lines
as_many lines = length-map lines string_bytes

pub first_seen : (count : ℕ) (lines : List (String Global))
    → first count (map string_bytes lines) ≡ map string_bytes (first count lines)
first_seen count lines =
    ap (λ n. take (min n count) (map string_bytes lines)) (as_many lines)
    ∙ take-map string_bytes (min (length lines) count) lines
