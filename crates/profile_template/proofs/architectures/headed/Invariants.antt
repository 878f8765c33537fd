-- The texts so far, followed by those of the other items, are those of all.
use Rattle.std.proofs.Common.{◌≡◌, ◌∷◌, ◌++◌, drop, map}
use Rattle.std.specs.Prelude.{filter_map, string_bytes}
use Rattle.serde_json.specs.View.{view}
use Rattle.json_tree.specs.Tree.{text}
use Rattle.profile_template.proofs.architectures.headed.Given as goal

abbrev pub invariant-loop-item : goal.invariant-loop-item
invariant-loop-item l = map string_bytes l.family.items
    ++ filter_map text (map view (drop l.item-index l.others)) ≡ l.own ∷ filter_map text (map view l.others)
