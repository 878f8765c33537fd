-- The names so far are written.
use Rattle.std.proofs.Common.{◌≡◌, map, take}
use Rattle.serde_json.specs.Data.{string}
use Rattle.serde_json.specs.View.{view}
use Rattle.profile_text.specs.Written.{name_text}
use Rattle.profile_text.proofs.trees.each_name.Given as goal

abbrev pub invariant-loop-number : goal.invariant-loop-number
invariant-loop-number l = map view l.trees.items ≡ map string (map (name_text l.calls)
    (take l.number-index l.numbers))
