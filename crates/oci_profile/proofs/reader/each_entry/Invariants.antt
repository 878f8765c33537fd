-- Reading the items from this one on after the entries so far returns what reading all of them does.
use Rattle.std.proofs.Common.{◌≡◌, [], map, drop}
use Rattle.serde_json.specs.View.{view}
use Rattle.json_tree.specs.Reading.{in_order_after}
use Rattle.oci_profile.specs.Reading.{entry_at}
use Rattle.oci_profile.proofs.reader.each_entry.Given as goal

abbrev pub invariant-loop-item : goal.invariant-loop-item
invariant-loop-item l = in_order_after (entry_at l.calls l.default) l.entries.items
    (map view (drop l.item-index l.items)) ≡ in_order_after (entry_at l.calls l.default) [] (map view l.items)
