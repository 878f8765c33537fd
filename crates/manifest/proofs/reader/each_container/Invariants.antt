-- Reading the items from this one on after the containers so far returns what reading all of them does.
use Rattle.std.proofs.Common.{◌≡◌, length, map, drop}
use Rattle.serde_json.specs.View.{view}
use Rattle.json_tree.specs.Reading.{in_order_after}
use Rattle.manifest.specs.Reading.{container_at}
use Rattle.manifest.proofs.reader.each_container.Given as goal

abbrev pub invariant-loop-item : goal.invariant-loop-item
invariant-loop-item l = in_order_after (container_at (length l.fn.done.items)) l.done.items
    (map view (drop l.item-index l.items))
    ≡ in_order_after (container_at (length l.fn.done.items)) l.fn.done.items (map view l.items)
