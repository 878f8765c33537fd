-- The items so far are rows.
use Rattle.std.proofs.Common.{◌≡◌, true, is_some, map, take}
use Rattle.serde_json.specs.View.{view}
use Rattle.json_tree.specs.Tree.{each}
use Rattle.script.specs.Script.{row}
use Rattle.script.proofs.install.are_rows.Given as goal

abbrev pub invariant-loop-item : goal.invariant-loop-item
invariant-loop-item l = is_some (each row (map view (take l.item-index l.items))) ≡ true
