-- Reading the items from this one on after the families so far returns what reading all of them does.
use Rattle.std.proofs.Common.{◌≡◌, [], map, drop}
use Rattle.serde_json.specs.View.{view}
use Rattle.json_tree.specs.Reading.{in_order_after}
use Rattle.profile_template.specs.Reading.{family_at}
use Rattle.profile_template.proofs.architectures.each_family.Given as goal

abbrev pub invariant-loop-item : goal.invariant-loop-item
invariant-loop-item l = in_order_after family_at l.families.items (map view (drop l.item-index l.items))
    ≡ in_order_after family_at [] (map view l.items)
