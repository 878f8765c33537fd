-- The taken names so far, followed by those of the others, are those of all.
use Rattle.std.proofs.Common.{◌≡◌, ◌++◌, drop, map}
use Rattle.std.specs.Prelude.{filter, string_bytes}
use Rattle.serde_json.specs.Data.{string}
use Rattle.serde_json.specs.View.{view}
use Rattle.profile_text.specs.Named.{is_taken}
use Rattle.profile_text.proofs.named.taken_names.Given as goal

abbrev pub invariant-loop-name : goal.invariant-loop-name
invariant-loop-name l = map view l.trees.items
    ++ map string (filter (is_taken l.calls l.is_stricter) (map string_bytes (drop l.name-index l.names)))
    ≡ map string (filter (is_taken l.calls l.is_stricter) (map string_bytes l.names))
