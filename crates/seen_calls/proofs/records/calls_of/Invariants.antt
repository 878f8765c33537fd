-- What the items from this one on give after the calls so far is what all of them give.
use Rattle.std.proofs.Common.{◌≡◌, [], map, drop}
use Rattle.serde_json.specs.View.{view}
use Rattle.json_tree.specs.Reading.{in_order_after}
use Rattle.seen_calls.specs.Records.{call_of}
use Rattle.seen_calls.proofs.records.calls_of.Given as goal

abbrev pub invariant-loop-item : goal.invariant-loop-item
invariant-loop-item l = in_order_after (λ done item. call_of item) l.calls.items
    (map view (drop l.item-index l.items)) ≡ in_order_after (λ done item. call_of item) [] (map view l.items)
