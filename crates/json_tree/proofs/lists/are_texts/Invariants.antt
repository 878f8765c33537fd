-- The items so far are all texts.
use Rattle.std.proofs.Common.{◌≡◌, true, is_some, map, take}
use Rattle.serde_json.specs.View.{view}
use Rattle.json_tree.specs.Tree.{each, text}
use Rattle.json_tree.proofs.lists.are_texts.Given as goal

abbrev pub invariant-loop-item : goal.invariant-loop-item
invariant-loop-item l = is_some (each text (map view (take l.item-index l.items))) ≡ true
