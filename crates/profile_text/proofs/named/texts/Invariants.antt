-- The texts so far are written.
use Rattle.std.proofs.Common.{◌≡◌, ◌++◌, drop, map}
use Rattle.std.specs.Prelude.{string_bytes}
use Rattle.serde_json.specs.Data.{string}
use Rattle.serde_json.specs.View.{view}
use Rattle.profile_text.proofs.named.texts.Given as goal

abbrev pub invariant-loop-text : goal.invariant-loop-text
invariant-loop-text l = map view l.trees.items ++ map string (map string_bytes (drop l.text-index l.texts))
    ≡ map string (map string_bytes l.texts)
