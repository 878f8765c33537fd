-- The rows so far spell these instructions.
use Rattle.std.proofs.Common.{◌≡◌, List, Some, map, take}
use Rattle.serde_json.specs.View.{view}
use Rattle.json_tree.specs.Tree.{each}
use Rattle.json_tree.specs.Reading.{Both}
use Rattle.script.specs.declared.install.Row.{Row}
use Rattle.script.specs.Script.{row, IsSpelled}
use Rattle.script.proofs.install.insns.Given as goal

abbrev pub invariant-loop-item : goal.invariant-loop-item
invariant-loop-item l = (numbers : List Row)
    × (each row (map view (take l.item-index l.items)) ≡ Some numbers) × Both IsSpelled numbers l.insns.items
