-- The items so far are all whole numbers.
use Rattle.std.proofs.Common.{◌≡◌, true, is_some, map, take}
use Rattle.serde_json.specs.View.{view}
use Rattle.json_tree.specs.Tree.{each, whole}
use Rattle.json_tree.proofs.lists.are_whole.Given as goal

abbrev pub invariant-loop-item : goal.invariant-loop-item
invariant-loop-item l = is_some (each whole (map view (take l.item-index l.items))) ≡ true
