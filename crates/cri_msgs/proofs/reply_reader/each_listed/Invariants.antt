-- The items so far were read, and as many as there were.
use Rattle.std.proofs.Common.{◌≡◌, length, map, take, Ok}
use Rattle.serde_json.specs.View.{view}
use Rattle.json_tree.specs.Reading.{in_order}
use Rattle.cri_msgs.specs.Reading.{listed_of}
use Rattle.cri_msgs.proofs.reply_reader.each_listed.Given as goal

abbrev pub invariant-loop-item : goal.invariant-loop-item
invariant-loop-item l = (in_order listed_of (map view (take l.item-index l.items)) ≡ Ok l.list.items)
    × (length l.list.items ≡ l.item-index)
