-- The items so far are all whole numbers, and were read.
use Rattle.std.proofs.Common.{◌≡◌, Some, map, take}
use Rattle.serde_json.specs.View.{view}
use Rattle.json_tree.specs.Tree.{each, whole}
use Rattle.json_tree.proofs.lists.each_whole.Given as goal

abbrev pub invariant-loop-item : goal.invariant-loop-item
invariant-loop-item l = each whole (map view (take l.item-index l.items)) ≡ Some l.numbers.items
