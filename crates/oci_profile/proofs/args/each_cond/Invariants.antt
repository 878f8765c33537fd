-- Reading the items from this one on after the conditions so far returns what reading all of them does.
use Rattle.std.proofs.Common.{◌≡◌, [], map, drop}
use Rattle.serde_json.specs.View.{view}
use Rattle.json_tree.specs.Reading.{in_order_after}
use Rattle.oci_profile.specs.Reading.{cond_at}
use Rattle.oci_profile.proofs.args.each_cond.Given as goal

abbrev pub invariant-loop-item : goal.invariant-loop-item
invariant-loop-item l = in_order_after cond_at l.conds.items (map view (drop l.item-index l.items))
    ≡ in_order_after cond_at [] (map view l.items)
